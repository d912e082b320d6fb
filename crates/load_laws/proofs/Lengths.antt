-- How long streams are at most: no piece of a line has more than 200 bytes, no output and no certificate more than 1,500, and no line more than 5,000,000.
use Rattle.std.proofs.Common.{◌≡◌, ℕ, zero, suc, ◌+◌, ◌-◌, ◌*◌, ◌/◌, ◌%◌, ◌==◌, ◌≤◌, ◌&&◌, Bool, true, false, List, [], ◌∷◌, ◌++◌, length, map, decimal, replicate, flat_map, if◌then◌else◌, codes, lit≤, arith, length-append, mul-suc, nat_le, refl, leb-true}
use Rattle.std.proofs.lemmas.Bool.{and_parts}
use Rattle.std.proofs.lemmas.List.{length-map, length-replicate}
use Rattle.std.proofs.lemmas.List.FromFn.{length-map-range_with_len, length-range_with_len}
use Rattle.std.specs.Fmt.{digit_glyph, digits, digits_onto}
use Rattle.std.specs.List.{list_all, range_with_len}
use Rattle.load_model.specs.Amounts.{account_count, account_in_epoch, account_name, accounts_of, drep_in_epoch, first_account, first_pulse, first_slot, last_slot, left_by_proposal, left_by_registration, left_by_votes, place_before_proposal, place_before_registration, proposal_name, registration_count, registration_name, votes_name, weight}
use Rattle.load_model.specs.Genesis.{genesis_line}
use Rattle.load_model.specs.Json.{joined, with_commas}
use Rattle.load_model.specs.Names.{hash28, hash32, key, padded}
use Rattle.load_model.specs.Stream.{account_cert, account_output, block_line, bytes_of_lines, drep_of, epoch_lines, left_output, proposing, registration_line, rewarding, transaction_begun, voting}
use Rattle.load_model.specs.of_text_model.Words.{Text}
use Rattle.load_laws.specs.Laws.{StreamsAreShort}

-- ---- texts one after another

-- each has at most so many bytes
abbrev EachAtMost : ℕ → List Text → Type 0
EachAtMost m [] = Unit {0}
EachAtMost m (text ∷ texts) = (length text ≤ m) × EachAtMost m texts

each_map : (m : ℕ) (f : ℕ → Text) → ((n : ℕ) → length (f n) ≤ m) → (ns : List ℕ) → EachAtMost m (map f ns)
each_map m f short [] = tt
each_map m f short (n ∷ ns) = (short n, each_map m f short ns)

each_append : (m : ℕ) (xs ys : List Text) → EachAtMost m xs → EachAtMost m ys → EachAtMost m (xs ++ ys)
each_append m [] ys each others = others
each_append m (text ∷ xs) ys (first, each) others = (first, each_append m xs ys each others)

each_flat_map : (m : ℕ) (f : ℕ → List Text) → ((n : ℕ) → EachAtMost m (f n)) → (ns : List ℕ) → EachAtMost m (flat_map f ns)
each_flat_map m f short [] = tt
each_flat_map m f short (n ∷ ns) = each_append m (f n) (flat_map f ns) (short n) (each_flat_map m f short ns)

-- texts of which each has at most one byte more
all_short : (m : ℕ) (f : Text → Text) → ((text : Text) → length (f text) ≤ length text + 1) → (texts : List Text) → EachAtMost m texts
    → length (flat_map f texts) ≤ (m + 1) * length texts
all_short m f more [] each = omega arith
all_short m f more (text ∷ texts) (first, others) =
    omega (arith, first, more text, all_short m f more texts others, length-append (f text) (flat_map f texts), mul-suc (m + 1) (length texts))

joined_short : (m : ℕ) (texts : List Text) → EachAtMost m texts → length (joined texts) ≤ (m + 1) * length texts
joined_short m texts each = all_short m (λ (text : Text). text) (λ text. omega arith) texts each

with_commas_short : (m : ℕ) (texts : List Text) → EachAtMost m texts → length (with_commas texts) ≤ (m + 1) * length texts
with_commas_short m [] each = omega arith
with_commas_short m (text ∷ texts) (first, others) =
    let rest = all_short m (λ (other : Text). 44 ∷ other) (λ other. omega arith) texts others in
    omega (arith, first, rest, length-append text (flat_map (λ (other : Text). 44 ∷ other) texts), mul-suc (m + 1) (length texts))

lines_short : (m : ℕ) (lines : List Text) → EachAtMost m lines → length (bytes_of_lines lines) ≤ (m + 1) * length lines
lines_short m lines each = all_short m (λ (line : Text). line ++ 10 ∷ []) (λ line. omega (arith, length-append line (10 ∷ []))) lines each

either_short : (m : ℕ) (b : Bool) (xs ys : Text) → length xs ≤ m → length ys ≤ m → length (if b then xs else ys) ≤ m
either_short m true xs ys x y = x
either_short m false xs ys x y = y

-- ---- numbers and names

digits_short : (k base : ℕ) (upper : Bool) (n : ℕ) (text : Text) → length (digits_onto k base upper n text) ≤ k + length text
digits_short zero base upper n text = omega arith
digits_short (suc k) base upper n text =
    let longer : Text = digit_glyph upper (n % base) ∷ text in
    let last : length longer ≤ suc k + length text = omega arith in
    let more : length (digits_onto k base upper (n / base) longer) ≤ suc k + length text = omega (arith, digits_short k base upper (n / base) longer) in
    either_short (suc k + length text) (n / base == 0) longer (digits_onto k base upper (n / base) longer) last more

decimal_short : (n : ℕ) → length (decimal n) ≤ 64
unfolding digits
decimal_short n = let h = digits_short 64 10 false n [] in omega (arith, h)

padded_short : (width n : ℕ) → length (padded width n) ≤ width + 64
padded_short width n =
    omega (arith, decimal_short n, length-append (replicate (width - length (decimal n)) 48) (decimal n), length-replicate {A = ℕ} (width - length (decimal n)) 48)

-- at most 200 bytes
abbrev Short : Text → Type 0
Short text = length text ≤ 200

hash28_short : (n : ℕ) → Short (hash28 n)
hash28_short n = omega (arith, padded_short 56 n)

key_short : (n : ℕ) → Short (key n)
key_short n = let hash = padded_short 56 n in omega (arith, hash)

-- ---- pieces of a line

data Piece : Type 0 where
  word : Text → Piece
  number : ℕ → Piece
  name28 : ℕ → Piece
  name32 : ℕ → Piece

abbrev piece_text : Piece → Text
piece_text (word text) = text
piece_text (number n) = decimal n
piece_text (name28 n) = hash28 n
piece_text (name32 n) = hash32 n

-- the words that are written out have at most 200 bytes
abbrev is_short : Piece → Bool
is_short (word text) = nat_le (length text) 200
is_short _ = true

piece_short : (p : Piece) → is_short p ≡ true → Short (piece_text p)
piece_short (word text) short = leb-true (length text) 200 short
piece_short (number n) short = omega (arith, decimal_short n)
piece_short (name28 n) short = hash28_short n
piece_short (name32 n) short = omega (arith, padded_short 64 n)

each_piece_short : (ps : List Piece) → list_all is_short ps ≡ true → EachAtMost 200 (map piece_text ps)
each_piece_short [] short = tt
each_piece_short (p ∷ ps) short = let both = and_parts (is_short p) (list_all is_short ps) short in (piece_short p both.0, each_piece_short ps both.1)

-- by the number of the pieces they are at most m bytes
abbrev fit : ℕ → List Piece → Bool
fit m ps = list_all is_short ps && nat_le (201 * length ps) m

pieces_short : (m : ℕ) (ps : List Piece) → fit m ps ≡ true → length (joined (map piece_text ps)) ≤ m
pieces_short m ps short =
    let both = and_parts (list_all is_short ps) (nat_le (201 * length ps) m) short in
    let all = joined_short 200 (map piece_text ps) (each_piece_short ps both.0) in
    omega (arith, all, length-map ps piece_text, leb-true (201 * length ps) m both.1)

-- ---- registrations

output_short : (seed i : ℕ) → length (account_output seed i) ≤ 1500
output_short seed i =
    pieces_short 1500 (
    word (codes "[\"1k") ∷ name28 1 ∷ word (codes "+k") ∷ name28 (account_name i) ∷
    word (codes "\",") ∷ number (weight seed i) ∷ word (codes ",0]") ∷ []) refl

left_short : (lovelace : ℕ) → length (left_output lovelace) ≤ 1500
left_short lovelace =
    pieces_short 1500 (
    word (codes "[\"1k") ∷ name28 1 ∷ word (codes "\",") ∷ number lovelace ∷ word (codes ",0]") ∷ []) refl

drep_short : (i : ℕ) → Short (drep_of i)
drep_short i =
    either_short 200 (i % 4 == 3) (codes "abstain") (if i % 4 == 2 then key 31 else key 30) (lit≤ tt)
    (either_short 200 (i % 4 == 2) (key 31) (key 30) (key_short 31) (key_short 30))

cert_short : (i : ℕ) → length (account_cert i) ≤ 1500
cert_short i =
    let begun : List Piece =
    word (codes "{\"cert\":\"account-reg\",\"cred\":\"k") ∷ name28 (account_name i) ∷
    word (codes "\",\"pool\":\"") ∷ name28 50 ∷ word (codes "\",\"drep\":\"") ∷ [] in
    omega (arith, pieces_short 1005 begun refl, drep_short i, length-append (joined (map piece_text begun)) (drep_of i ++ codes "\"}"), length-append (drep_of i) (codes "\"}"))

begun_short : (n place : ℕ) → length (transaction_begun n place) ≤ 900000
begun_short n place =
    pieces_short 900000 (
    word (codes "{\"kind\":\"tx\",\"id\":\"") ∷ name32 n ∷ word (codes "\",\"inputs\":[\"") ∷ name32 (n - 1) ∷
    word (codes "#") ∷ number place ∷ word (codes "\"],\"outputs\":[") ∷ []) refl

-- at most 500 accounts
few_accounts : (accounts j : ℕ) → account_count accounts j ≤ 500
few_accounts accounts j = omega arith

outputs_short : (seed accounts j : ℕ) (left : Text) → length left ≤ 1500 → length (with_commas (map (account_output seed) (accounts_of accounts j) ++ left ∷ [])) ≤ 900000
outputs_short seed accounts j left short =
    let own : List Text = map (account_output seed) (accounts_of accounts j) in
    let all = with_commas_short 1500 (own ++ left ∷ [])
    (each_append 1500 own (left ∷ []) (each_map 1500 (account_output seed) (output_short seed) (accounts_of accounts j)) (short, tt)) in
    let count = length-map-range_with_len (account_output seed) (first_account j) (account_count accounts j) in
    omega (arith, all, count, length-append own (left ∷ []), few_accounts accounts j)

certs_short : (accounts j : ℕ) → length (with_commas (map account_cert (accounts_of accounts j))) ≤ 900000
certs_short accounts j =
    let all = with_commas_short 1500 (map account_cert (accounts_of accounts j)) (each_map 1500 account_cert cert_short (accounts_of accounts j)) in
    omega (arith, all, length-map-range_with_len account_cert (first_account j) (account_count accounts j), few_accounts accounts j)

registration_short : (seed accounts j : ℕ) → length (registration_line seed accounts j) ≤ 5000000
registration_short seed accounts j =
    let begun = begun_short (registration_name j) (place_before_registration accounts j) in
    let left : Text = left_output (left_by_registration seed accounts j) in
    let outputs = outputs_short seed accounts j left (left_short (left_by_registration seed accounts j)) in
    let certs = certs_short accounts j in
    let all = joined_short 900000
    (transaction_begun (registration_name j) (place_before_registration accounts j) ∷
    with_commas (map (account_output seed) (accounts_of accounts j) ++ left ∷ []) ∷ codes "],\"fee\":1,\"size\":0,\"certs\":[" ∷
    with_commas (map account_cert (accounts_of accounts j)) ∷ codes "]}" ∷ [])
    (begun, (outputs, (lit≤ tt, (certs, (lit≤ tt, tt))))) in
    omega (arith, all)

-- ---- epochs

block_short : (slot pulse : ℕ) → length (block_line slot pulse) ≤ 5000000
block_short slot pulse =
    pieces_short 5000000 (
    word (codes "{\"kind\":\"block\",\"slot\":") ∷ number slot ∷ word (codes ",\"pulse\":") ∷ number pulse ∷ word (codes "}") ∷ []) refl

proposing_short : (n place left amount : ℕ) → length (proposing n place left amount) ≤ 5000000
proposing_short n place left amount =
    pieces_short 5000000 (
    word (codes "{\"kind\":\"tx\",\"id\":\"") ∷ name32 n ∷ word (codes "\",\"inputs\":[\"") ∷ name32 (n - 1) ∷
    word (codes "#") ∷ number place ∷ word (codes "\"],\"outputs\":[[\"1k") ∷ name28 1 ∷ word (codes "\",") ∷ number left ∷
    word (codes ",0]],\"fee\":1,\"size\":0,\"proposals\":[{\"deposit\":10,\"return\":\"1k") ∷ name28 1000 ∷
    word (codes "\",\"action\":{\"type\":\"TreasuryWithdrawals\",\"targets\":[[\"1k") ∷ name28 1000 ∷
    word (codes "\",") ∷ number amount ∷ word (codes "]]}}]}") ∷ []) refl

voting_short : (n left account drep : ℕ) → length (voting n left account drep) ≤ 5000000
voting_short n left account drep =
    pieces_short 5000000 (
    word (codes "{\"kind\":\"tx\",\"id\":\"") ∷ name32 n ∷ word (codes "\",\"inputs\":[\"") ∷ name32 (n - 1) ∷
    word (codes "#0\"],\"outputs\":[[\"1k") ∷ name28 1 ∷ word (codes "\",") ∷ number left ∷
    word (codes ",0]],\"fee\":1,\"size\":0,\"certs\":[{\"cert\":\"delegate\",\"cred\":\"k") ∷ name28 account ∷
    word (codes "\",\"drep\":\"k") ∷ name28 drep ∷
    word (codes "\"}],\"votes\":[{\"voter\":\"drep:k") ∷ name28 30 ∷ word (codes "\",\"action\":\"") ∷ name32 (n - 1) ∷
    word (codes "#0\",\"vote\":\"yes\"},{\"voter\":\"drep:k") ∷ name28 31 ∷ word (codes "\",\"action\":\"") ∷ name32 (n - 1) ∷
    word (codes "#0\",\"vote\":\"no\"}]}") ∷ []) refl

rewarding_short : (e account : ℕ) → length (rewarding e account) ≤ 5000000
rewarding_short e account =
    pieces_short 5000000 (
    word (codes "{\"kind\":\"rewards\",\"epoch\":") ∷ number e ∷
    word (codes ",\"fromReserves\":5,\"fromFees\":0,\"toTreasury\":2,\"rewards\":[[\"k") ∷ name28 account ∷ word (codes "\",3]]}") ∷ []) refl

epoch_short : (seed accounts e : ℕ) → EachAtMost 5000000 (epoch_lines seed accounts e)
epoch_short seed accounts e =
    let first = block_short (first_slot e) (first_pulse seed e) in
    let proposal = proposing_short (proposal_name accounts e) (place_before_proposal accounts e) (left_by_proposal seed accounts e) (10 + e) in
    let votes = voting_short (votes_name accounts e) (left_by_votes seed accounts e) (account_in_epoch seed accounts e) (drep_in_epoch e) in
    let rewards = rewarding_short e (account_in_epoch seed accounts e) in
    (first, (proposal, (votes, (votes, (rewards, (block_short (last_slot e) 1, tt))))))

six_each : (seed accounts : ℕ) (es : List ℕ) → length (flat_map (epoch_lines seed accounts) es) ≡ 6 * length es
six_each seed accounts [] = omega arith
six_each seed accounts (e ∷ es) =
    omega (arith, six_each seed accounts es, length-append (epoch_lines seed accounts e) (flat_map (epoch_lines seed accounts) es))

-- ---- the stream

genesis_short : length genesis_line ≤ 5000000
unfolding digits
genesis_short = lit≤ tt

pub streams_are_short : StreamsAreShort
streams_are_short seed accounts epochs most_accounts most_epochs =
    let few : registration_count accounts ≤ 2000 = omega arith in
    let registrations : List Text = map (registration_line seed accounts) (range_with_len 0 (registration_count accounts)) in
    let rest : List Text = flat_map (epoch_lines seed accounts) (range_with_len 0 epochs) in
    let each : EachAtMost 5000000 (genesis_line ∷ registrations ++ rest) = (
      genesis_short,
      each_append 5000000 registrations rest
          (each_map 5000000 (registration_line seed accounts) (registration_short seed accounts) (range_with_len 0 (registration_count accounts)))
          (each_flat_map 5000000 (epoch_lines seed accounts) (epoch_short seed accounts) (range_with_len 0 epochs)),
    ) in
    let all = lines_short 5000000 (genesis_line ∷ registrations ++ rest) each in
    let registered = length-map-range_with_len (registration_line seed accounts) 0 (registration_count accounts) in
    let six = six_each seed accounts (range_with_len 0 epochs) in
    omega (arith, all, length-append registrations rest, registered, six, length-range_with_len 0 epochs, few, most_epochs)
