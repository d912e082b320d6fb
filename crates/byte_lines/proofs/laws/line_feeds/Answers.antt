use Rattle.byte_lines.proofs.GivenLemmas.{feed_ends_begun, feed_ends_one_more, feed_gives_line}
use Rattle.byte_lines.proofs.laws.line_feeds.Goals as goal

pub returns : goal.returns
returns c = record { one_more = feed_ends_one_more; begun = feed_ends_begun; line = feed_gives_line }
