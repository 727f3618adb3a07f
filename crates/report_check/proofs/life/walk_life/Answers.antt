use Rattle.std.proofs.Common.{◌≡◌, ◌<◌, ◌↔◌, List, ap, subst, sym, ◌∙◌}
use Rattle.std.specs.List.{Contains}
use Rattle.tx_events.specs.declared.event.Event.{Event}
use Rattle.tx_events.specs.declared.multi.Member.{Member}
use Rattle.tx_events.specs.declared.multi.MultiEvent.{MultiEvent}
use Rattle.tx_events.specs.declared.record.Counters.{Counters}
use Rattle.tx_events.specs.Base.{IsBase}
use Rattle.tx_events.specs.Events.{by_of}
use Rattle.tx_events.specs.Multis.{multi_by}
use Rattle.tx_model.specs.declared.report.LifeReport.{LifeReport}
use Rattle.history_places.specs.declared.start.Start.{Start}
use Rattle.history_places.specs.Starts.{FitsBase, start_of}
use Rattle.life_tables.specs.Numbered.{IsNumbered}
use Rattle.report_law.specs.Begun.{Begun}
use Rattle.report_check.proofs.Handing.{kept_is}
use Rattle.report_check.proofs.Leaving.{start_counters}
use Rattle.report_check.proofs.Sectioned.{few_of, life_whole}
use Rattle.report_check.proofs.life.walk_life.Goals as goal

pub known_of-requires : goal.known_of-requires
known_of-requires g c =
    let r = c.requires in
    let left = r.1.1.1.1 in
    let counters : g.at.begun.counters ≡ c.args.report.now.life.base = ap (λ (b : Begun). b.counters) r.0 ∙ start_counters c.args.before.now c.args.report.now.life r.1.1.1.0 in
    let slice : c.as_slice.result.now ≡ c.args.kept.now.starts.items = c.as_slice.ensures.value in
    let fits : FitsBase c.args.report.now.life.base c.as_slice.result.now =
    subst (λ (b : Counters). FitsBase b c.as_slice.result.now) counters (subst (λ (t : List Start). FitsBase g.at.begun.counters t) (sym slice) left.starts.fits) in (
      r.1.0,
      (
        r.1.1.0,
        (
          (counters, subst IsBase counters left.base),
          (
            fits,
            λ multi offset. subst (λ (t : List Start). Contains t (start_of multi offset) ↔ ((members : List Member) × Contains g.at.begun.recorded (multi, offset, members))) (sym slice) (left.starts.are multi offset),
          ),
        ),
      ),
    )

pub walk_from_steps-requires : goal.walk_from_steps-requires
walk_from_steps-requires g c =
    let r = c.requires in
    let same = r.1.0 in
    let counters : g.at.begun.counters ≡ c.args.report.now.life.base = ap (λ (b : Begun). b.counters) r.0 ∙ start_counters c.args.before.now c.args.report.now.life r.1.1.1.0 in
    let numbered : IsNumbered g.at.report = subst IsNumbered same r.1.1.0 in (
      record { life = ap (λ (x : LifeReport). x.life) same; steps = ap (λ (x : LifeReport). x.steps) same },
      (
        kept_is g.at.begun c.args.before.now c.args.kept.now r.1.1.1.1,
        (
          c.in_ok-known.ensures,
          (
            counters,
            (
              few_of (λ (e : Event). (by_of e).session < 64) g.at.report.life.events numbered.events,
              few_of (λ (e : MultiEvent). (multi_by e).session < 64) g.at.report.life.multis numbered.multis,
            ),
          ),
        ),
      ),
    )

pub returns : goal.returns
returns g c =
    let r = c.requires in
    life_whole c.args.before.now c.args.report.now g.at.report g.at.begun c.behind.result c.in_ok-rest.rest r.0 r.1.0 r.1.1.1.0 c.behind.ensures c.in_ok-rest.ensures
