use Rattle.std.proofs.Common.{◌≡◌, ℕ, ◌<◌, sym, ◌∙◌, ap}
use Rattle.std.specs.List.{slice_get}
use Rattle.tx_events.specs.Multis.{made_at}
use Rattle.multi_store.specs.Generator.{Generator}
use Rattle.multi_store.proofs.LegalSound.{legal_sound, made_at_place}
use Rattle.multi_store.proofs.Indexing.{got_is}
use Rattle.multi_store.proofs.Numbers.{lt_from_cmp}
use Rattle.multi_store.proofs.generator.MultiGen.start_of.Goals as goal

pub returns-then-lt : goal.returns-then-lt
returns-then-lt c =
    let s = legal_sound _ _ c.self.invariant.0.base_is c.self.invariant.0.legal in
    let below : c.args.multi < c.self.inside.base.multi = lt_from_cmp _ _ (sym c.lt.ensures ∙ c.if-lt.true) in
    sym (sym (ap (λ (g : Generator). made_at c.args.multi g.events) c.self.view_is) ∙ s.older c.args.multi below)

pub returns : goal.returns
returns c =
    let s = legal_sound _ _ c.self.invariant.0.base_is c.self.invariant.0.legal in
    let n : ℕ = c.place_of-place.result in
    let got : c.copied.result ≡ slice_get c.self.inside.offsets.items n =
    c.copied.ensures ∙ got_is c.deref.result.now n c.get.result c.get.ensures.lookup ∙ ap (λ os. slice_get os n) c.deref.ensures.value in
    got
    ∙ ap (λ os. slice_get os n) c.self.invariant.0.offsets_are
    ∙ sym (made_at_place _ _ n s)
    ∙ ap (λ m. made_at m c.self.inside.events.items) c.place_of-place.ensures
    ∙ ap (λ (g : Generator). made_at c.args.multi g.events) c.self.view_is
