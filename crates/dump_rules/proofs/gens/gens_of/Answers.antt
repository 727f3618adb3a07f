use Rattle.std.proofs.Common.{◌≡◌, ◌<◌, ◌+◌, ◌++◌, ◌∷◌, [], ap, sym, subst, ◌∙◌, arith, length, take, get_or, List, ℕ, Bool}
use Rattle.std.proofs.lemmas.List.{length-take-le, take_all, take_more}
use Rattle.tx_events.specs.declared.multi.MultiEvent.{MultiEvent}
use Rattle.tx_events.specs.Multis.{AreLegalMultis, MultiMayCome, multi_by}
use Rattle.history_places.specs.Starts.{BeginsAs}
use Rattle.dump_rules.specs.Gens.{AreGens, marked}
use Rattle.dump_rules.proofs.Marking.{AreSoFar, none_yet, ok_at, one_more, step_legal}
use Rattle.dump_rules.proofs.gens.gens_of.Goals as goal

pub loop-place-init : goal.loop-place-init
loop-place-init g c = record { far = subst (AreSoFar c.args.multis.now.base g.of.ok []) (sym c.new-gens.ensures.items) (none_yet c.args.multis.now.base g.of.ok) }

pub loop-place-preserved : goal.loop-place-preserved
loop-place-preserved g c =
    let n = c.loop-place.place in
    let h = c.events-events.result.now in
    let base = c.args.multis.now.base in
    let known = BeginsAs c.args.multis.now.starts in
    let ok = g.of.ok in
    let e = c.index-events-place.result in
    let low : n < length h = c.loop-place-test.true in
    let items = c.loop-place.gens.items in
    let more : take (n + 1) h ≡ take n h ++ e ∷ [] = take_more h n e low ∙ ap (λ (y : MultiEvent). take n h ++ y ∷ []) (sym c.index-events-place.is) in
    let size : length (take n h) ≡ n = length-take-le n h (omega arith) in
    let legal : AreLegalMultis base known h = subst (AreLegalMultis base known) (sym c.events-events.ensures.value) c.events-events.ensures.legal in
    let front : h ≡ take (length h) g.of.all = subst (λ (t : List MultiEvent). t ≡ take (length t) g.of.all) (sym c.events-events.ensures.value) c.requires.1 in
    let may : MultiMayCome base known (take n h) e = subst (MultiMayCome base known (take n h)) (sym c.index-events-place.is) (step_legal base known h n e legal low) in
    let answered : (d : Bool) → get_or c.args.oks.now n d ≡ ok (multi_by e) =
    λ d. ap (λ (t : List Bool). get_or t n d) c.requires.0 ∙ ok_at ok g.of.all h n e d front low ∙ ap (λ (x : MultiEvent). ok (multi_by x)) (sym c.index-events-place.is) in
    let pushed : c.note_gen.new.gens.items ≡ items ++ marked (length (take n h)) (ok (multi_by e)) e =
    c.in_ok-note_gen.ensures ∙ ap (λ (b : Bool). items ++ marked n b e) (answered _) ∙ ap (λ (k : ℕ). items ++ marked k (ok (multi_by e)) e) (sym size) in
    record {
      far = subst (λ (t : List MultiEvent). AreSoFar base ok t c.note_gen.new.gens.items) (sym more)
          (subst (AreSoFar base ok (take n h ++ e ∷ [])) (sym pushed) (one_more base known ok (take n h) e items may c.loop-place.invariant.far));
    }

pub returns : goal.returns
returns g c =
    subst (λ (h : List MultiEvent). AreGens g.of.ok h c.loop-place.gens.items) (take_all c.loop-place.place c.events-events.result.now (omega arith) ∙ c.events-events.ensures.value) c.loop-place.invariant.far.are
