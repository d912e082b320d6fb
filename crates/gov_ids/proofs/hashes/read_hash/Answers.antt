use Rattle.std.proofs.Common.{◌≡◌, ◌+◌, ◌*◌, length, slice_index, arith, sym, ◌∙◌}
use Rattle.std.proofs.lemmas.List.{length-set}
use Rattle.std.proofs.lemmas.List.Sums.{list_all-from_AllPass}
use Rattle.hex.proofs.HexLemmas.{decode_of-even}
use Rattle.hex.proofs.Pairs.{decode_done, decode_step}
use Rattle.hex.specs.Hex.{is_hex_digit}
use Rattle.gov_ids.proofs.HashLemmas.{hash_of_bad_hex, hash_of_decoded, pair_of_digits}
use Rattle.gov_ids.proofs.hashes.read_hash.Goals as goal

pub returns-then-not-are_digits : goal.returns-then-not-are_digits
returns-then-not-are_digits g c =
    let long : length c.args.digits.now ≡ 2 * g.row.N = omega (arith, c.if-digits-ne0.false, c.if-digits.false) in
    sym ((hash_of_bad_hex g.row.N c.args.digits.now).1 (long, λ all. let h = list_all-from_AllPass is_hex_digit c.args.digits.now all in cc (h, c.are_digits.ensures, c.if-not-are_digits.true)))

pub bytes-preserved : goal.bytes-preserved
bytes-preserved g c = (
  length-set _ _ _ ∙ c.bytes.invariant.0,
  decode_step _ _ c.bytes.i _ (omega arith) (omega arith)
      (pair_of_digits (slice_index c.args.digits.now (2 * c.bytes.i)) (slice_index c.args.digits.now (2 * c.bytes.i + 1)) (2 * c.bytes.i) c.value.result c.value-in-bytes.result c.value.ensures.digit c.value-in-bytes.ensures.digit) c.bytes.invariant.1,
)

pub returns : goal.returns
returns g c =
    let pairs = decode_done _ c.bytes.hash c.bytes.i (omega arith) (omega arith) c.bytes.invariant.1 in
    sym (hash_of_decoded _ _ _ (omega arith) (decode_of-even _ (omega arith) ∙ pairs))
