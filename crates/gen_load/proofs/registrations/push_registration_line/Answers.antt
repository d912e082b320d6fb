use Rattle.std.proofs.Common.{◌≡◌, ℕ, ◌-◌, List, [], ◌∷◌, ◌++◌, codes, flat_map, map, ap, sym, ◌∙◌}
use Rattle.std.specs.List.{range_with_len}
use Rattle.load_model.specs.Amounts.{account_count, accounts_of, first_account, left_by_registration, place_before_registration, registration_name}
use Rattle.load_model.specs.Json.{with_commas}
use Rattle.load_model.specs.Stream.{account_cert, account_output, left_output, transaction_begun}
use Rattle.gen_load.proofs.Together.{numbers_are, outputs_are, six_parts}
use Rattle.gen_load.proofs.registrations.push_registration_line.Goals as goal

pub returns-clause-text : goal.returns-clause-text
returns-clause-text c =
    let j : ℕ = c.args.registration in
    let numbers : List ℕ = accounts_of c.args.accounts j in
    let left : ℕ = left_by_registration c.args.seed c.args.accounts j in
    let begun : List ℕ = transaction_begun (registration_name j) (place_before_registration c.args.accounts j) in
    let outputs : List ℕ = flat_map (λ (i : ℕ). account_output c.args.seed i ++ 44 ∷ []) numbers in
    let middle : List ℕ = codes "],\"fee\":1,\"size\":0,\"certs\":[" in
    let certs : List ℕ = with_commas (map account_cert numbers) in
    let are : range_with_len c.first_of-first.result (c.end_of-end.result - c.first_of-first.result) ≡ numbers =
    numbers_are c.first_of-first.result c.end_of-end.result (first_account j) (account_count c.args.accounts j) c.first_of-first.ensures c.end_of-end.ensures.end in
    six_parts c.begin.new.line c.push_account_outputs.new.line c.push_left.new.line c.push_middle.new.line c.push_account_certs.new.line c.push.new.self
    begun outputs (left_output left) middle certs (codes "]}")
    (c.begin.ensures.text
    ∙ ap (λ (n : ℕ). transaction_begun n c.place_before-place.result) c.registration_name_of-name.ensures
    ∙ ap (λ (n : ℕ). transaction_begun (registration_name j) n) c.place_before-place.ensures)
    (c.push_account_outputs.ensures.text ∙ ap (λ (l : List ℕ). c.begin.new.line ++ flat_map (λ (i : ℕ). account_output c.args.seed i ++ 44 ∷ []) l) are)
    (c.push_left.ensures.text ∙ ap (λ (n : ℕ). c.push_account_outputs.new.line ++ left_output n) c.requires.left)
    c.push_middle.ensures.text
    (c.push_account_certs.ensures.text ∙ ap (λ (l : List ℕ). c.push_middle.new.line ++ with_commas (map account_cert l)) are)
    c.push.ensures.text
    ∙ ap (λ (l : List ℕ). begun ++ (l ++ (middle ++ (certs ++ codes "]}")))) (sym (outputs_are (account_output c.args.seed) numbers (left_output left)))
