use Rattle.std.proofs.Common.{subst, ◌≡◌, ℕ, List}
use Rattle.std.specs.Bool.{Decides}
use Rattle.std.proofs.lemmas.Bool.Decides.{Decides-eqb}
use Rattle.std.proofs.lemmas.Slice.Eq.{slice_eq-Decides}
use Rattle.session_levels.proofs.ListLemmas.{same_name-is}
use Rattle.line_stances.proofs.snaps.is_named.Goals as goal

pub returns : goal.returns
returns c =
    same_name-is c.args.taken.now.name c.args.name.now c.eq.result
    (subst (λ (a : List ℕ). Decides c.eq.result (a ≡ c.args.name.now)) c.items.ensures
    (slice_eq-Decides (λ a b. Decides-eqb a b) c.items.result.now c.args.name.now c.eq.result c.eq.ensures))
