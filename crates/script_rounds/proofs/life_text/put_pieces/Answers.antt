use Rattle.std.proofs.Common.{List, refl, subst, take, ℕ}
use Rattle.std.proofs.lemmas.Result.{on_err_weaker}
use Rattle.std.specs.Io.KnownBytes.{Appends}
use Rattle.std.specs.List.{flat_map}
use Rattle.std.specs.Prelude.{OnErr}
use Rattle.script_rounds.proofs.Fronts.{first_stopped, then_stopped}
use Rattle.script_rounds.proofs.life_text.put_pieces.Goals as goal

pub returns-in_err-put_texts-clause-front : goal.returns-in_err-put_texts-clause-front
returns-in_err-put_texts-clause-front g c =
    let held = g.K.Sink.held in
    let front : List ℕ = flat_map (λ t. t) c.parts.result.0.now in
    subst (λ (t : List ℕ). OnErr c.from_residual.result ((n : ℕ) × Appends (held c.args.sink.now) (held c.put_texts.new.sink) (take n t))) c.parts.ensures
    (first_stopped c.from_residual.result (held c.args.sink.now) (held c.put_texts.new.sink) front c.parts.result.1.now front refl c.in_err-put_texts.ensures.front)

pub returns-clause-front : goal.returns-clause-front
returns-clause-front g c =
    let held = g.K.Sink.held in
    let begun = held c.args.sink.now in
    let mid = held c.put_texts.new.sink in
    let end = held c.write_all.new.sink in
    let front : List ℕ = flat_map (λ t. t) c.parts.result.0.now in
    on_err_weaker c.write_all.result
    (λ f. subst (λ (t : List ℕ). (n : ℕ) × Appends begun end (take n t)) c.parts.ensures
    (then_stopped begun mid end front c.parts.result.1.now c.in_ok-put_texts.ensures.ok (f.0, subst (λ (t : List ℕ). Appends mid end (take f.0 t)) c.bytes.ensures f.1)))
    c.write_all.ensures.front
