use Rattle.std.proofs.Common.{take, ap, ◌∙◌, take-take, arith}
use Rattle.tx_model.proofs.short_name.ShortName.of.Goals as goal

pub returns : goal.returns
returns c =
    ap (take c.count-count.result) c.copy_from_slice.ensures.after ∙ take-take c.count-count.result 10 c.padded.result.now (omega arith)
    ∙ ap (λ n. take n c.padded.result.now) c.count-count.ensures.value ∙ c.padded.ensures
