use Rattle.byte_lines.proofs.GivenLemmas.{begins_with_none, call_gives_more, given_adds_up, given_all, given_first, given_is_between, given_whole, staying_gives_none}
use Rattle.byte_lines.proofs.laws.what_was_given.Goals as goal

pub returns : goal.returns
returns c = record {
  between = given_is_between;
  stays = staying_gives_none;
  adds_up = given_adds_up;
  begins = begins_with_none;
  goes_on = call_gives_more;
  all = given_all;
  whole = given_whole;
  first = given_first;
}
