use Rattle.std.proofs.Common.{◌∙◌, arith}
use Rattle.wal_records.proofs.Lengths.{size_is, size_short}
use Rattle.wal_records.proofs.writing.rec_length.Goals as goal

pub size-requires : goal.size-requires
size-requires c = let few = size_short c.args.rec.now c.requires in omega (arith, few)

pub returns : goal.returns
returns c =
    let few = size_short c.args.rec.now c.requires in
    record { length = c.size.ensures ∙ size_is c.args.rec.now; size = c.size.ensures; short = omega (arith, few, c.size.ensures) }
