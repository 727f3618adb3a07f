use Rattle.std.proofs.Common.{◌∙◌, ◌==◌, List, ℕ, ap, length, sym}
use Rattle.script_rounds.proofs.Stepping.{as_many}
use Rattle.script_rounds.proofs.places.Places.is_empty.Goals as goal

pub returns : goal.returns
returns c =
    let s = c.self.inside in
    c.is_empty.ensures ∙ ap (λ n. n == 0) (s.steps.ok.0 ∙ sym (as_many 0 s.steps.items s.far.items))
    ∙ ap (λ (places : List ℕ). length places == 0) c.self.view_is
