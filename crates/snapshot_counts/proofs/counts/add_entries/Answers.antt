use Rattle.std.proofs.Common.{ℕ, ◌+◌, List, [], None, drop, get_or, ap, sym, ◌∙◌}
use Rattle.std.proofs.lemmas.List.{at_drop_more, drop_all}
use Rattle.accounts.specs.Accounts.{Accounts, with_entry}
use Rattle.book_records.specs.declared.Entry.{Entry}
use Rattle.gov_ids.specs.declared.CredKind.TheVariants.{Key}
use Rattle.gov_ids.specs.declared.Credential.{Credential}
use Rattle.gov_ids.specs.Orders.{credential_cmp}
use Rattle.maps.specs.Maps.{with_values}
use Rattle.snapshot_counts.specs.Kept.{kept_entries}
use Rattle.snapshot_counts.proofs.Kept.{put_kept}
use Rattle.snapshot_counts.proofs.counts.add_entries.Goals as goal

abbrev nothing : Credential × Entry
nothing = (record { hash = []; kind = Key }, record { stake = 0; registered = None })

pub loop-credential-preserved : goal.loop-credential-preserved
loop-credential-preserved c =
    let entries : List (Credential × Entry) = c.args.entries.now in
    let i : ℕ = c.loop-credential.credential-index in
    let old : List (Credential × Entry) = c.loop-credential.book.live in
    let e : Credential × Entry = get_or entries i nothing in
    let put = ap (λ (a : Accounts). a.live) c.in_ok-put.ensures.ok ∙ ap (λ (x : Entry). with_entry e.0 x old) c.kept_entry.ensures ∙ put_kept e.0 e.1 old in
    ap (λ (es : List (Credential × Entry)). with_values credential_cmp (kept_entries (drop (i + 1) entries)) es) put
    ∙ sym (at_drop_more (λ (left : List (Credential × Entry)). with_values credential_cmp (kept_entries left) old) entries i nothing c.loop-credential-test.true)
    ∙ c.loop-credential.invariant

pub returns : goal.returns
returns c =
    sym (ap (λ (left : List (Credential × Entry)). with_values credential_cmp (kept_entries left) c.loop-credential.book.live) (drop_all c.loop-credential.credential-index c.args.entries.now c.loop-credential-test.false))
    ∙ c.loop-credential.invariant
