-- What was read of the lines, and that the loans stay.
use Rattle.std.proofs.Common.{◌≡◌, [], Err, rules, sym, ◌∙◌}
use Rattle.ended_source.specs.Ended.{IsAt}
use Rattle.resume_loop.proofs.HeadRead.{faulted, faulted_later, found, none_found}
use Rattle.resume_loop.proofs.head.read_text.Goals as goal

pub returns-in-Ok-Some-clause-same_lines : goal.returns-in-Ok-Some-clause-same_lines
returns-in-Ok-Some-clause-same_lines g c =
    let first : g.text.first ≡ [] = search rules in
    let bytes : g.text.bytes ≡ g.S.Source.left c.args.ended.now.source.now = search rules in
    let at : IsAt g.text (record { reader = c.args.ended.now.lines.ghost_name; source = c.args.ended.now.source.ghost_name; lines = c.args.ended.now.lines.now; place = c.args.ended.now.place; left = g.S.Source.left c.args.ended.now.source.now; failed = g.S.Source.faults c.args.ended.now.source.now }) [] = search rules in
    (found g.R.RunState.world g.text first _ at bytes _ c.in-Ok-Some.read.0 c.in-Ok-Some.read.1 (rw c.in-Ok-Some.field-0-is at c.in-Ok-Some.ensures.reads)).at.same_reader ∙ sym at.same_reader

pub returns-in-Ok-Some-clause-same_source : goal.returns-in-Ok-Some-clause-same_source
returns-in-Ok-Some-clause-same_source g c =
    let first : g.text.first ≡ [] = search rules in
    let bytes : g.text.bytes ≡ g.S.Source.left c.args.ended.now.source.now = search rules in
    let at : IsAt g.text (record { reader = c.args.ended.now.lines.ghost_name; source = c.args.ended.now.source.ghost_name; lines = c.args.ended.now.lines.now; place = c.args.ended.now.place; left = g.S.Source.left c.args.ended.now.source.now; failed = g.S.Source.faults c.args.ended.now.source.now }) [] = search rules in
    (found g.R.RunState.world g.text first _ at bytes _ c.in-Ok-Some.read.0 c.in-Ok-Some.read.1 (rw c.in-Ok-Some.field-0-is at c.in-Ok-Some.ensures.reads)).at.same_source ∙ sym at.same_source

pub returns-in-Ok-Some-clause-reads : goal.returns-in-Ok-Some-clause-reads
returns-in-Ok-Some-clause-reads g c =
    let first : g.text.first ≡ [] = search rules in
    let bytes : g.text.bytes ≡ g.S.Source.left c.args.ended.now.source.now = search rules in
    let at : IsAt g.text (record { reader = c.args.ended.now.lines.ghost_name; source = c.args.ended.now.source.ghost_name; lines = c.args.ended.now.lines.now; place = c.args.ended.now.place; left = g.S.Source.left c.args.ended.now.source.now; failed = g.S.Source.faults c.args.ended.now.source.now }) [] = search rules in
    found g.R.RunState.world g.text first _ at bytes _ c.in-Ok-Some.read.0 c.in-Ok-Some.read.1 (rw c.in-Ok-Some.field-0-is at c.in-Ok-Some.ensures.reads)

pub returns-in_ok-pass_all-in-Ok-None-clause-same_lines : goal.returns-in_ok-pass_all-in-Ok-None-clause-same_lines
returns-in_ok-pass_all-in-Ok-None-clause-same_lines g c =
    let first : g.text.first ≡ [] = search rules in
    let bytes : g.text.bytes ≡ g.S.Source.left c.args.ended.now.source.now = search rules in
    let at : IsAt g.text (record { reader = c.args.ended.now.lines.ghost_name; source = c.args.ended.now.source.ghost_name; lines = c.args.ended.now.lines.now; place = c.args.ended.now.place; left = g.S.Source.left c.args.ended.now.source.now; failed = g.S.Source.faults c.args.ended.now.source.now }) [] = search rules in
    (none_found g.R.RunState.world g.text first _ at bytes _ _ (rw c.in-Ok-None.field-0-is at c.in-Ok-None.ensures.reads) c.pass_all.ensures.passes c.in_ok-pass_all-in-Ok-None.ensures.at).at.same_reader ∙ sym at.same_reader

pub returns-in_ok-pass_all-in-Ok-None-clause-same_source : goal.returns-in_ok-pass_all-in-Ok-None-clause-same_source
returns-in_ok-pass_all-in-Ok-None-clause-same_source g c =
    let first : g.text.first ≡ [] = search rules in
    let bytes : g.text.bytes ≡ g.S.Source.left c.args.ended.now.source.now = search rules in
    let at : IsAt g.text (record { reader = c.args.ended.now.lines.ghost_name; source = c.args.ended.now.source.ghost_name; lines = c.args.ended.now.lines.now; place = c.args.ended.now.place; left = g.S.Source.left c.args.ended.now.source.now; failed = g.S.Source.faults c.args.ended.now.source.now }) [] = search rules in
    (none_found g.R.RunState.world g.text first _ at bytes _ _ (rw c.in-Ok-None.field-0-is at c.in-Ok-None.ensures.reads) c.pass_all.ensures.passes c.in_ok-pass_all-in-Ok-None.ensures.at).at.same_source ∙ sym at.same_source

pub returns-in_ok-pass_all-in-Ok-None-clause-reads : goal.returns-in_ok-pass_all-in-Ok-None-clause-reads
returns-in_ok-pass_all-in-Ok-None-clause-reads g c =
    let first : g.text.first ≡ [] = search rules in
    let bytes : g.text.bytes ≡ g.S.Source.left c.args.ended.now.source.now = search rules in
    let at : IsAt g.text (record { reader = c.args.ended.now.lines.ghost_name; source = c.args.ended.now.source.ghost_name; lines = c.args.ended.now.lines.now; place = c.args.ended.now.place; left = g.S.Source.left c.args.ended.now.source.now; failed = g.S.Source.faults c.args.ended.now.source.now }) [] = search rules in
    none_found g.R.RunState.world g.text first _ at bytes _ _ (rw c.in-Ok-None.field-0-is at c.in-Ok-None.ensures.reads) c.pass_all.ensures.passes c.in_ok-pass_all-in-Ok-None.ensures.at

pub returns-in_err-pass_all-in-Ok-None-clause-same_lines : goal.returns-in_err-pass_all-in-Ok-None-clause-same_lines
returns-in_err-pass_all-in-Ok-None-clause-same_lines g c =
    let first : g.text.first ≡ [] = search rules in
    let bytes : g.text.bytes ≡ g.S.Source.left c.args.ended.now.source.now = search rules in
    let at : IsAt g.text (record { reader = c.args.ended.now.lines.ghost_name; source = c.args.ended.now.source.ghost_name; lines = c.args.ended.now.lines.now; place = c.args.ended.now.place; left = g.S.Source.left c.args.ended.now.source.now; failed = g.S.Source.faults c.args.ended.now.source.now }) [] = search rules in
    (faulted_later g.R.RunState.world g.text first _ at bytes _ _ c.read_checkpoint.ensures.passes c.pass_all.ensures.passes c.in_err-pass_all-in-Ok-None.field-0.0 c.in_err-pass_all-in-Ok-None.ensures.at).at.same_reader ∙ sym at.same_reader

pub returns-in_err-pass_all-in-Ok-None-clause-same_source : goal.returns-in_err-pass_all-in-Ok-None-clause-same_source
returns-in_err-pass_all-in-Ok-None-clause-same_source g c =
    let first : g.text.first ≡ [] = search rules in
    let bytes : g.text.bytes ≡ g.S.Source.left c.args.ended.now.source.now = search rules in
    let at : IsAt g.text (record { reader = c.args.ended.now.lines.ghost_name; source = c.args.ended.now.source.ghost_name; lines = c.args.ended.now.lines.now; place = c.args.ended.now.place; left = g.S.Source.left c.args.ended.now.source.now; failed = g.S.Source.faults c.args.ended.now.source.now }) [] = search rules in
    (faulted_later g.R.RunState.world g.text first _ at bytes _ _ c.read_checkpoint.ensures.passes c.pass_all.ensures.passes c.in_err-pass_all-in-Ok-None.field-0.0 c.in_err-pass_all-in-Ok-None.ensures.at).at.same_source ∙ sym at.same_source

pub returns-in_err-pass_all-in-Ok-None-clause-reads : goal.returns-in_err-pass_all-in-Ok-None-clause-reads
returns-in_err-pass_all-in-Ok-None-clause-reads g c =
    let first : g.text.first ≡ [] = search rules in
    let bytes : g.text.bytes ≡ g.S.Source.left c.args.ended.now.source.now = search rules in
    let at : IsAt g.text (record { reader = c.args.ended.now.lines.ghost_name; source = c.args.ended.now.source.ghost_name; lines = c.args.ended.now.lines.now; place = c.args.ended.now.place; left = g.S.Source.left c.args.ended.now.source.now; failed = g.S.Source.faults c.args.ended.now.source.now }) [] = search rules in
    let is : c.from_residual.result ≡ Err c.in_err-pass_all-in-Ok-None.field-0.0 = search rules in
    rw is (faulted_later g.R.RunState.world g.text first _ at bytes _ _ c.read_checkpoint.ensures.passes c.pass_all.ensures.passes c.in_err-pass_all-in-Ok-None.field-0.0 c.in_err-pass_all-in-Ok-None.ensures.at)

pub returns-in-Err-clause-same_lines : goal.returns-in-Err-clause-same_lines
returns-in-Err-clause-same_lines g c =
    let first : g.text.first ≡ [] = search rules in
    let bytes : g.text.bytes ≡ g.S.Source.left c.args.ended.now.source.now = search rules in
    let at : IsAt g.text (record { reader = c.args.ended.now.lines.ghost_name; source = c.args.ended.now.source.ghost_name; lines = c.args.ended.now.lines.now; place = c.args.ended.now.place; left = g.S.Source.left c.args.ended.now.source.now; failed = g.S.Source.faults c.args.ended.now.source.now }) [] = search rules in
    (faulted g.R.RunState.world g.text first _ at bytes _ c.read_checkpoint.ensures.passes).at.same_reader ∙ sym at.same_reader

pub returns-in-Err-clause-same_source : goal.returns-in-Err-clause-same_source
returns-in-Err-clause-same_source g c =
    let first : g.text.first ≡ [] = search rules in
    let bytes : g.text.bytes ≡ g.S.Source.left c.args.ended.now.source.now = search rules in
    let at : IsAt g.text (record { reader = c.args.ended.now.lines.ghost_name; source = c.args.ended.now.source.ghost_name; lines = c.args.ended.now.lines.now; place = c.args.ended.now.place; left = g.S.Source.left c.args.ended.now.source.now; failed = g.S.Source.faults c.args.ended.now.source.now }) [] = search rules in
    (faulted g.R.RunState.world g.text first _ at bytes _ c.read_checkpoint.ensures.passes).at.same_source ∙ sym at.same_source
