use Rattle.std.specs.Bool.{Decides}
use Rattle.std.proofs.lemmas.Bool.Decides.{Decides-eqb}
use Rattle.std.proofs.lemmas.Slice.Eq.{slice_eq-Decides}
use Rattle.std.proofs.Common.{◌≡◌}
use Rattle.history_places.proofs.snaps.same_ids.Goals as goal

pub returns : goal.returns
returns c =
    let d : Decides c.eq.result (c.args.one.now ≡ c.args.other.now) = slice_eq-Decides (λ a b. Decides-eqb a b) c.args.one.now c.args.other.now c.eq.result c.eq.ensures in
    (d.0, d.1)
