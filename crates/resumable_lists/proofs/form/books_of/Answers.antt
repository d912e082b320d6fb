use Rattle.resumable_lists.proofs.form.books_of.Goals as goal

pub returns : goal.returns
returns c = λ l. λ i. record l {
  outputs = c.as_slice.ensures i;
  used = c.as_slice-2.ensures i;
  accounts = c.as_slice-3.ensures i;
  pools = c.as_slice-4.ensures i;
  dreps = c.as_slice-5.ensures i;
  hot = c.as_slice-6.ensures i;
  proposals = c.as_slice-7.ensures i;
}
