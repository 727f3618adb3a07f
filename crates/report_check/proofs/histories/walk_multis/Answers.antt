use Rattle.std.proofs.Common.{◌≡◌, ◌<◌, ℕ, List, length, set, take, ap, subst, sym, ◌∙◌, refl, arith}
use Rattle.tx_events.specs.declared.multi.MultiEvent.{MultiEvent}
use Rattle.tx_events.specs.Multis.{multi_by}
use Rattle.tx_model.specs.declared.report.Life.{Life}
use Rattle.event_rules.proofs.Fronting.{one_more}
use Rattle.report_law.specs.Events.{IsLawfulMulti}
use Rattle.report_law.specs.ReportLines.{multi}
use Rattle.report_check.proofs.Sections.{placed_broken, placed_next}
use Rattle.report_check.specs.Walked.{AreLatest}
use Rattle.report_check.proofs.Judging.{all_placed, all_there, item_is, latest_push, multis_so_far, never_true, there}
use Rattle.report_check.proofs.histories.walk_multis.Goals as goal

pub is_lawful_multi-requires : goal.is_lawful_multi-requires
is_lawful_multi-requires g c =
    let r = c.requires in
    let items : c.items-multis.result.now ≡ g.j.life.multis = c.items-multis.ensures ∙ ap (λ (l : Life). l.multis) r.0.life in
    let size : length c.items-multis.result.now ≡ length g.j.life.multis = ap length items in
    let within : c.loop-place.place < length g.j.life.multis = let l : c.loop-place.place < length c.items-multis.result.now = c.loop-place-test.true in omega arith in
    let latest : AreLatest (take c.loop-place.place g.j.life.multis) c.as_slice.result.now = subst (λ (t : List ℕ). AreLatest (take c.loop-place.place g.j.life.multis) t) (sym c.as_slice.ensures.value) c.loop-place.invariant.latest in
    (r.0, (r.1.0, (r.1.1, (latest, (within, multis_so_far g.j c.loop-place.place c.loop-place.invariant.lawful)))))

pub returns-then-not-branch : goal.returns-then-not-branch
returns-then-not-branch g c =
    let items : c.items-multis.result.now ≡ g.j.life.multis = c.items-multis.ensures ∙ ap (λ (l : Life). l.multis) c.requires.0.life in
    let one = there g.j.life.multis c.items-multis.result.now c.loop-place.place (length c.items-multis.result.now) items refl c.loop-place-test.true in
    placed_broken (multi g.j) g.j.life.multis c.loop-place.place one.0 c.loop-place.invariant.lawful one.1
    (never_true c.in_ok-is_lawful_multi.field-0 (IsLawfulMulti g.j c.loop-place.place one.0) c.if-not-branch.true (c.in_ok-is_lawful_multi.ensures one.0 one.1))

pub loop-place-preserved : goal.loop-place-preserved
loop-place-preserved g c =
    let h : List MultiEvent = g.j.life.multis in
    let p : ℕ = c.loop-place.place in
    let items : c.items-multis.result.now ≡ h = c.items-multis.ensures ∙ ap (λ (l : Life). l.multis) c.requires.0.life in
    let one = there h c.items-multis.result.now p (length c.items-multis.result.now) items refl c.loop-place-test.true in
    let e : MultiEvent = one.0 in
    let lawful : IsLawfulMulti g.j p e = (c.in_ok-is_lawful_multi.ensures e one.1).0 c.if-not-branch.false in
    let few : (multi_by e).session < 64 = all_there (λ (x : MultiEvent). (multi_by x).session < 64) h p e c.requires.1.1 one.1 in
    let same : c.index-multis-place.result ≡ e = item_is h c.items-multis.result.now p c.index-multis-place.result e items c.index-multis-place.is one.1 in
    let noted : c.note_latest.new.last.items ≡ set c.loop-place.last.items (multi_by e).session (multi_by e).command =
    c.note_latest.ensures ∙ ap (λ (x : MultiEvent). set c.loop-place.last.items (multi_by x).session (multi_by x).command) same in
    record {
      lawful = placed_next (multi g.j) h p e c.loop-place.invariant.lawful one.1 lawful;
      latest = subst (λ (t : List MultiEvent). AreLatest t c.note_latest.new.last.items) (sym (one_more p h e one.1))
          (latest_push (take p h) e c.loop-place.last.items c.note_latest.new.last.items c.loop-place.invariant.latest few lawful.turn noted);
    }

pub returns : goal.returns
returns g c =
    let items : c.items-multis.result.now ≡ g.j.life.multis = c.items-multis.ensures ∙ ap (λ (l : Life). l.multis) c.requires.0.life in
    all_placed (multi g.j) g.j.life.multis c.items-multis.result.now c.loop-place.place (length c.items-multis.result.now) items refl c.loop-place-test.false c.loop-place.invariant.lawful
