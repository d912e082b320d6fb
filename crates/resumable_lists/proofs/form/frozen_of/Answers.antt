use Rattle.resumable_lists.proofs.form.frozen_of.Goals as goal

pub returns : goal.returns
returns c = λ f. λ i. record f {
  entries = c.as_slice.ensures i;
  dreps = c.as_slice-2.ensures i;
  mark = c.as_slice-3.ensures i;
  pool_accounts = c.as_slice-4.ensures i;
  hot = c.as_slice-5.ensures i;
  proposals = c.as_slice-6.ensures i;
}
