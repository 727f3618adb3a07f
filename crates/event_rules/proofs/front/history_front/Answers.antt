use Rattle.std.proofs.Common.{◌≡◌, ◌+◌, ◌<◌, ℕ, List, [], ◌∷◌, ◌++◌, Option, Some, true, false, length, get_or, take, refl, sym, ap, subst, ◌∙◌, rules, arith}
use Rattle.std.proofs.lemmas.List.{take_more}
use Rattle.std.proofs.lemmas.List.Elements.{All-contains}
use Rattle.std.proofs.lemmas.Option.{slice_get-get_or}
use Rattle.std.specs.List.{slice_get}
use Rattle.std.specs.Prelude.{slice_index}
use Rattle.tx_events.specs.declared.event.By.{By}
use Rattle.tx_events.specs.declared.event.Event.{Event}
use Rattle.tx_events.specs.declared.record.Counters.{Counters}
use Rattle.tx_events.specs.declared.snapshot.SnapData.{SnapData}
use Rattle.tx_events.specs.Events.{by_of}
use Rattle.tx_events.specs.Running.{open_ids}
use Rattle.tx_events.proofs.Membership.{has_contains}
use Rattle.history_check.specs.Replays.{IsLawfulNext, Replayed}
use Rattle.history_places.specs.declared.snaps.SnapMark.{SnapMark}
use Rattle.history_places.specs.SnapMarks.{AreSnapMarks, IsSnapMark}
use Rattle.history_places.specs.Opens.{AreOpenCounts}
use Rattle.history_places.proofs.Growing.{counted_push, has_there, none_counted}
use Rattle.event_rules.specs.Fronts.{IsFront, list_at}
use Rattle.event_rules.proofs.Fronting.{front_here, front_whole, marks_none, marks_push}
use Rattle.event_rules.proofs.front.history_front.Goals as goal

pub loop-place-init : goal.loop-place-init
loop-place-init c = record {
  sofar = search rules;
  base = search rules;
  sessions = search rules;
  marks = λ told_by t.
      let none : c.in_ok-places.places.events ≡ [] = search rules in
      let empty : c.in_ok-snaps.snaps.items ≡ [] = search rules in
      rw (none, empty) (marks_none c.args.base.next told_by);
  opened =
      let none : c.in_ok-places.places.events ≡ [] = search rules in
      let empty : c.in_ok-opened.opened.items ≡ [] = search rules in
      rw (none, empty) none_counted;
}

pub returns-then-not-branch-clause-front : goal.returns-then-not-branch-clause-front
returns-then-not-branch-clause-front c =
    let stays = c.in_ok-add.ensures.refused c.if-not-branch.true in
    let old = c.in_ok-mark.ensures.same in
    let e = c.index-events-place.result in
    subst (λ (r : Replayed). IsFront c.args.base c.args.events.now r) (sym (stays.1 ∙ old))
    (front_here c.args.base c.args.events.now c.loop-place.places c.loop-place.place e c.loop-place.invariant.base c.loop-place-test.true c.loop-place.invariant.sofar c.index-events-place.is
    (subst (λ (r : Replayed). IsLawfulNext r e → ⊥) old stays.0))

pub returns-then-not-branch-clause-snaps : goal.returns-then-not-branch-clause-snaps
returns-then-not-branch-clause-snaps c = λ told_by t.
    let stays = c.in_ok-add.ensures.refused c.if-not-branch.true in
    let old = c.in_ok-mark.ensures.same in
    subst (λ (r : Replayed). AreSnapMarks c.args.base.next r.events told_by c.loop-place.snaps.items) (sym (stays.1 ∙ old)) (c.loop-place.invariant.marks told_by t)

pub returns-then-not-branch-clause-opened : goal.returns-then-not-branch-clause-opened
returns-then-not-branch-clause-opened c =
    let stays = c.in_ok-add.ensures.refused c.if-not-branch.true in
    subst (λ (r : Replayed). AreOpenCounts r.events c.loop-place.opened.items) (sym (stays.1 ∙ c.in_ok-mark.ensures.same)) c.loop-place.invariant.opened

pub open_now-requires : goal.open_now-requires
open_now-requires c =
    let comes = c.in_ok-add.ensures.added c.if-not-branch.false in
    let e : Event = c.index-events-place.result in
    let h : List Event = c.args.events.now in
    let n : ℕ = c.loop-place.place in
    let at : slice_get h n ≡ Some e = slice_get-get_or h n e c.loop-place-test.true ∙ ap (λ (y : Event). Some y) (sym c.index-events-place.is) in
    let few : (by_of e).session < c.args.sessions = All-contains (λ (f : Event). (by_of f).session < c.args.sessions) h e c.requires.each (has_contains h e (has_there h n e at)) in
    let sessions : c.replay.result.now.sessions ≡ c.args.sessions =
    ap (λ (x : Replayed). x.sessions) (c.replay.ensures ∙ comes.1) ∙ ap (λ (x : Replayed). x.sessions) c.in_ok-mark.ensures.same ∙ c.loop-place.invariant.sessions in
    subst (λ k. (by_of e).session < k) (sym sessions) few

pub loop-place-preserved : goal.loop-place-preserved
loop-place-preserved c =
    let comes = c.in_ok-add.ensures.added c.if-not-branch.false in
    let old = c.in_ok-mark.ensures.same in
    let e : Event = c.index-events-place.result in
    let r : Replayed = c.loop-place.places in
    let h : List Event = c.args.events.now in
    let n : ℕ = c.loop-place.place in
    let in_range : n < length h = c.loop-place-test.true in
    let new : c.add.new.self.events ≡ r.events ++ e ∷ [] = ap (λ (x : Replayed). x.events) comes.1 ∙ ap (λ (x : Replayed). x.events ++ e ∷ []) old in
    let base : c.add.new.self.base ≡ r.base = ap (λ (x : Replayed). x.base) comes.1 ∙ ap (λ (x : Replayed). x.base) old in
    let sessions : c.add.new.self.sessions ≡ r.sessions = ap (λ (x : Replayed). x.sessions) comes.1 ∙ ap (λ (x : Replayed). x.sessions) old in
    record {
      sofar = new ∙ ap (λ (es : List Event). es ++ e ∷ []) c.loop-place.invariant.sofar ∙ sym (take_more h n e in_range ∙ ap (λ (y : Event). take n h ++ y ∷ []) (sym c.index-events-place.is));
      base = base ∙ c.loop-place.invariant.base;
      sessions = sessions ∙ c.loop-place.invariant.sessions;
      marks = λ told_by t.
          let at : slice_get h n ≡ Some e = slice_get-get_or h n e in_range ∙ ap (λ (y : Event). Some y) (sym c.index-events-place.is) in
          let o : Option SnapMark = c.in_ok-mark.mark in
          let line : c.number_at.result ≡ slice_index c.args.own.now.numbers n = c.number_at.ensures.number in
          let told : list_at c.args.lists.now c.number_at.result ≡ told_by (by_of e) = ap (list_at c.args.lists.now) line ∙ t n e at in
          let there : IsSnapMark r.base.next r.events (told_by (by_of e)) e o = subst (λ (x : Option SnapData). IsSnapMark r.base.next r.events x e o) told c.in_ok-mark.ensures.mark in
          let here : IsSnapMark c.args.base.next r.events (told_by (by_of e)) e o = subst (λ (b : Counters). IsSnapMark b.next r.events (told_by (by_of e)) e o) c.loop-place.invariant.base there in
          let pushed : c.push.new.self.items ≡ c.loop-place.snaps.items ++ o ∷ [] = c.in_ok-push.ensures.items in
          subst (λ (es : List Event). AreSnapMarks c.args.base.next es told_by c.push.new.self.items) (sym new)
          (subst (λ (ms : List (Option SnapMark)). AreSnapMarks c.args.base.next (r.events ++ e ∷ []) told_by ms) (sym pushed)
          (marks_push c.args.base.next r.events told_by c.loop-place.snaps.items e o (c.loop-place.invariant.marks told_by t) here));
      opened =
          let n : ℕ = c.open_now.result in
          let session = (by_of e).session in
          let is : n ≡ length (open_ids session (r.events ++ e ∷ [])) =
          c.open_now.ensures ∙ ap (λ (x : Replayed). length (open_ids session x.events)) c.replay.ensures ∙ ap (λ (es : List Event). length (open_ids session es)) new in
          let pushed : c.push-in-loop-place.new.self.items ≡ c.loop-place.opened.items ++ n ∷ [] = c.in_ok-push-2.ensures.items in
          subst (λ (es : List Event). AreOpenCounts es c.push-in-loop-place.new.self.items) (sym new)
          (subst (λ (ns : List ℕ). AreOpenCounts (r.events ++ e ∷ []) ns) (sym pushed) (counted_push r.events e c.loop-place.opened.items n c.loop-place.invariant.opened is));
    }

pub returns-clause-front : goal.returns-clause-front
returns-clause-front c = front_whole c.args.base c.args.events.now c.loop-place.places c.loop-place.place c.loop-place.invariant.base c.loop-place-test.false c.loop-place.invariant.sofar
