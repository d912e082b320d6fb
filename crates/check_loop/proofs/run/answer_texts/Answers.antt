-- One text more, or the end.
use Rattle.std.proofs.Common.{◌≡◌, ℕ, ◌<◌, ◌≤◌, List, [], Option, Some, Err, length, ap, refl, rules, subst, sym, ◌∙◌, arith, lit<}
use Rattle.byte_lines.specs.Progress.{HasRead}
use Rattle.byte_lines.specs.Reader.{Reader, part_max}
use Rattle.check_loop.specs.Faults.{fault_of_line, fault_of_sink}
use Rattle.check_loop.proofs.Endings.{end_cut, end_fault, end_none, go_on, limits_by, run_stopped, stands_first}
use Rattle.check_loop.proofs.run.answer_texts.Goals as goal

pub loop-number-init : goal.loop-number-init
loop-number-init g c =
    let e = c.new-lines.ensures.reader in
    record {
      calm = record {
        begun = ap (λ (r : Reader). r.begun) e;
        ahead = subst (λ (l : List ℕ). length l < part_max) (sym (ap (λ (r : Reader). r.ahead) e)) (lit< tt);
        within = (let none : c.new-lines.result.taken ≡ 0 = ap (λ (r : Reader). r.taken) e in omega (arith, none));
      };
      limits = record { line_max = ap (λ (r : Reader). r.line_max) e; stream_max = ap (λ (r : Reader). r.stream_max) e };
      reads = refl;
      writes = refl;
      stands = λ bytes known. stands_first (subst (λ (o : Option (List ℕ)). HasRead bytes c.new-lines.result o []) (sym known) (c.new-lines.ensures.reads bytes));
    }

pub returns-in_err-next-clause-checks : goal.returns-in_err-next-clause-checks
returns-in_err-next-clause-checks g c = λ bytes known.
    let law = c.whole_lines.ensures in
    let inv = c.loop-number.invariant in
    let is : c.from_residual.result ≡ Err (fault_of_line c.in_err-next.field-0.0) = search rules in
    rw is (end_fault (inv.stands bytes known) inv.limits c.in_err-next.field-0.0 c.in_err-next.ensures inv.calm.within law.whole law.all law.first)

pub returns-in_default-clause-checks : goal.returns-in_default-clause-checks
returns-in_default-clause-checks g c = λ bytes known.
    let inv = c.loop-number.invariant in
    end_none (inv.stands bytes known) inv.limits c.in_ok-next.ensures c.in_default.is c.whole_lines.ensures.all

pub returns-in_err-put_answer-clause-checks : goal.returns-in_err-put_answer-clause-checks
returns-in_err-put_answer-clause-checks g c = λ bytes known.
    let law = c.whole_lines.ensures in
    let inv = c.loop-number.invariant in
    let is : c.from_residual-in_err-put_answer.result ≡ Err (fault_of_sink c.in_err-put_answer.field-0.0) = search rules in
    rw is (end_cut (inv.stands bytes known) inv.limits c.in_ok-next.ensures c.in-Some.is c.in_err-put_answer.field-0.0 law.nothing_beyond law.takes law.all law.first c.in_err-put_answer.ensures.err)

pub loop-number-preserved : goal.loop-number-preserved
loop-number-preserved g c =
    let inv = c.loop-number.invariant in
    record {
      calm = c.in_ok-next.ensures.calm _ refl;
      limits = limits_by inv.limits c.in_ok-next.ensures.line_max c.in_ok-next.ensures.stream_max;
      reads = c.in_ok-next.ensures.counts.stays (λ e. cc) ∙ inv.reads;
      writes = c.in_ok-put_answer.ensures.counts.stays (λ e. cc) ∙ inv.writes;
      stands = λ bytes known. go_on (inv.stands bytes known) inv.limits c.in_ok-next.ensures c.in-Some.is c.whole_lines.ensures.takes c.in_ok-put_answer.ensures.ok;
    }

pub returns-clause-checks : goal.returns-clause-checks
returns-clause-checks g c = λ bytes known.
    let law = c.whole_lines.ensures in
    let inv = c.loop-number.invariant in
    run_stopped (inv.stands bytes known) inv.limits inv.calm.within law.all law.first
