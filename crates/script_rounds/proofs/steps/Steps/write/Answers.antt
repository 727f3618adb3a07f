use Rattle.std.proofs.Common.{List, ap, refl, subst, take, ℕ, ◌++◌, ◌≡◌, ◌∙◌}
use Rattle.std.proofs.lemmas.Result.{on_err_weaker}
use Rattle.std.specs.Io.KnownBytes.{Appends}
use Rattle.std.specs.List.{flat_map}
use Rattle.std.specs.Prelude.{OnErr}
use Rattle.script_rounds.proofs.Fronts.{first_stopped, then_stopped}
use Rattle.script_rounds.proofs.steps.Steps.write.Goals as goal

pub returns-in_err-write_each-clause-front : goal.returns-in_err-write_each-clause-front
returns-in_err-write_each-clause-front g c =
    let held = g.K.Sink.held in
    let front : List ℕ = flat_map (λ t. t) c.as_slice.result.now in
    let last = c.self.inside.last in
    let all : front ++ last ≡ c.args.self.now = ap (λ (ts : List (List ℕ)). flat_map (λ t. t) ts ++ last) c.as_slice.ensures.value ∙ c.self.view_is in
    subst (λ (t : List ℕ). OnErr c.from_residual.result ((n : ℕ) × Appends (held c.args.sink.now) (held c.write_each.new.sink) (take n t))) all
    (first_stopped c.from_residual.result (held c.args.sink.now) (held c.write_each.new.sink) front last front refl c.in_err-write_each.ensures.front)

pub returns-clause-front : goal.returns-clause-front
returns-clause-front g c =
    let held = g.K.Sink.held in
    let begun = held c.args.sink.now in
    let mid = held c.write_each.new.sink in
    let end = held c.write.new.sink in
    let front : List ℕ = flat_map (λ t. t) c.as_slice.result.now in
    let last = c.self.inside.last in
    let all : front ++ last ≡ c.args.self.now = ap (λ (ts : List (List ℕ)). flat_map (λ t. t) ts ++ last) c.as_slice.ensures.value ∙ c.self.view_is in
    on_err_weaker c.write.result
    (λ f. subst (λ (t : List ℕ). (n : ℕ) × Appends begun end (take n t)) all
    (then_stopped begun mid end front last c.in_ok-write_each.ensures.ok f))
    c.write.ensures.front
