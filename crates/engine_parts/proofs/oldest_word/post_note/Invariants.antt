use Rattle.engine_parts.specs.Holds.{post_of}
use Rattle.engine_parts.proofs.oldest_word.post_note.Given as goal

abbrev pub ghost-by : goal.ghost-by
ghost-by a = post_of a._about.now.0 a._about.now.1
