use Rattle.std.proofs.Common.{arith, map}
use Rattle.std.specs.Prelude.{string_bytes}
use Rattle.script_gen.proofs.GenWords.{no_gen, three_words}
use Rattle.script_gen.proofs.words.gen_words.Goals as goal

pub returns-in-len3-clause-only : goal.returns-in-len3-clause-only
returns-in-len3-clause-only c =
    no_gen (map string_bytes c.args.words.now) (string_bytes c.name-item.result) (string_bytes c.seed-item.result) (string_bytes c.size-item.result)
    (three_words string_bytes c.args.words.now c.name-item.result c.seed-item.result c.size-item.result (omega (arith, c.in-len3.len_at_least, c.in-len3.len_below)) c.name-item.is c.seed-item.is c.size-item.is)
    c.asked_by.result c.asked_by.ensures.only
