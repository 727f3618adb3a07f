use mir.Syntax.{of_param}
use Rattle.std.proofs.Common.{Bool, List, None, [], ap, arith, length, refl, subst, sym, ℕ, ◌<◌, ◌^◌, ◌∙◌, ◌≡◌, ◌∷◌, rules}
use Rattle.std.proofs.lemmas.Result.{err_from_is_err_and}
use Rattle.std.specs.List.{flat_map}
use Rattle.disk_core.specs.Images.{Only}
use Rattle.tx_events.specs.Base.{IsBase}
use Rattle.tx_events.specs.Ids.{IsFullMulti}
use Rattle.tx_model.specs.declared.report.LifeReport.{LifeReport}
use Rattle.tx_model.specs.Rounds.{lines_in}
use Rattle.session_lang.specs.declared.script.Item.{Item}
use Rattle.session_lang.specs.declared.script.Script.{Script}
use Rattle.run_law.specs.Lives.{BeginsWithBase, RunStart}
use Rattle.script_gen.specs.Summaries.{IsSummaryOf}
use Rattle.script_gen.specs.Counts.{summary_by, summary_text}
use Rattle.script_rounds.specs.contracts.tally.TallyLineKeeper.TheImpl as tally_keeper
use Rattle.script_rounds.specs.Counted.{verdicts_in}
use Rattle.engine_host.specs.declared.cluster.Cluster.{Cluster}
use Rattle.engine_life.specs.FirstLives.{MayMount}
use Rattle.session_run.specs.Leaves.{LeavesVolumes}
use Rattle.session_run.specs.OneLife.{IsOpened, life_of}
use Rattle.session_run.specs.Parts.{HasLived, IsTakenPart, report_of}
use Rattle.session_run.specs.Starts.{BeginsOver}
use Rattle.session_run.proofs.Counted.{counts_told, left_alone, part_alone, verdicts_few}
use Rattle.session_run.proofs.Opening.{is_first, may_over, start_so, unopened_first}
use Rattle.session_run.proofs.RoundSteps.{kept_lines}
use Rattle.session_run.proofs.run.count_script.Goals as goal

-- With a ghost value the clauses of `requires` have no names: they stand in their order behind what is asked of lifetimes.

pub open_life-requires : goal.open_life-requires
open_life-requires g c κs within =
    let m = g.M.Media in
    let own = c.requires.1.1.1.1.1 in
    let log = own.0 in
    let pages = own.1.0 in
    let cluster = c.cluster_of.ensures.cluster in
    let asked = own.1.1.1.1.1.1.1 in
    let may = may_over g.M.Log.LogDisk g.M.Pages.PageDisk c.args.script.now (MayMount (m.is_new c.args.media.now) (m.begins c.args.media.now) (m.gives c.args.media.now)) g.kept c.cluster_of.result c.cluster_of.ensures.is asked.1 in
    (search (rules, within), (search (rules, within), (search (rules, within), (record { owned = log.owned; leaving = λ k. log.leaving (λ a. k (of_param 1)) }, (record { owned = pages.owned; leaving = λ k. pages.leaving (λ a. k (of_param 2)) }, (cluster, (asked.0, may)))))))

pub returns-in_err-open_life-clause-refused : goal.returns-in_err-open_life-clause-refused
returns-in_err-open_life-clause-refused g c =
    let m = g.M.Media in
    let old = c.args.media.now in
    let new = c.open_life.new.media in
    let none = unopened_first g.M.Log.LogDisk g.M.Pages.PageDisk c.args.script.now g.kept (m.is_new old) (m.begins old) (m.gives old) m.falls (m.faults old) (m.faults new) (m.gives new) c.cluster_of.result c.in_err-open_life.field-0.0 c.cluster_of.ensures.is
    c.in_err-open_life.ensures.refused (λ was told. c.in_err-open_life.ensures.again told was) in
    let err = err_from_is_err_and c.from_residual.result c.from_residual.ensures.1 in
    rw (err.1, err.2) none

pub run_life-closed-requires-clause-taken : goal.run_life-closed-requires-clause-taken
run_life-closed-requires-clause-taken g c κs within =
    let s = c.args.script.now in
    subst (IsTakenPart (length s.names)) (sym c.items-items.ensures) (part_alone s (c.requires.1.1.1.1.1.1.1.1.1.1.1.0))

pub run_life-closed-requires-clause-may : goal.run_life-closed-requires-clause-may
run_life-closed-requires-clause-may g c κs within =
    let s = c.args.script.now in
    let m = g.M.Media in
    let first = MayMount (m.is_new c.args.media.now) (m.begins c.args.media.now) (m.gives c.args.media.now) in
    let life = c.in_ok-open_life.field-0.value in
    let is = is_first g.M.Log.LogDisk g.M.Pages.PageDisk s first g.kept c.cluster_of.result life c.cluster_of.ensures.is (c.requires.1.1.1.1.1.1.1.1.1.1.1.1.1) c.in_ok-open_life.ensures.life in
    record {
      cluster = is.so.cluster;
      begins = is.so.begins;
      faults = is.so.faults;
      mounted = is.volumes;
      sessions_are = is.so.sessions;
      opened = subst (IsOpened is.so.cluster is.so.begins is.so.faults is.volumes) (sym c.into_inner-life.ensures) is.so.opened;
    }

-- what holds of these banks, this start and these lives holds of the summary's
with_counts : (tells : Bool) (s : Script) (text : List ℕ) (banks : ℕ) (start : RunStart) (lives : List LifeReport) (F : ℕ → RunStart → List LifeReport → Type 0)
    → (counts : IsSummaryOf tells s text) × (counts.banks ≡ banks) × (counts.start ≡ start) × (counts.report.lives ≡ lives)
    → F banks start lives → (counts : IsSummaryOf tells s text) × F counts.banks counts.start counts.report.lives
with_counts tells s text banks start lives F k f = (
  k.0,
  subst (λ (n : ℕ). F n k.0.start k.0.report.lives) (sym k.1) (subst (λ (z : RunStart). F banks z k.0.report.lives) (sym k.2) (subst (λ (z : List LifeReport). F banks start z) (sym k.3) f)),
)

pub returns-in-Ok-text-clause-counts : goal.returns-in-Ok-text-clause-counts
returns-in-Ok-text-clause-counts g c =
    let s = c.args.script.now in
    let m = g.M.Media in
    let l = g.M.Log.LogDisk in
    let p = g.M.Pages.PageDisk in
    let first = MayMount (m.is_new c.args.media.now) (m.begins c.args.media.now) (m.gives c.args.media.now) in
    let life = c.in_ok-open_life.field-0.value in
    let closed = c.run_life-closed.result.0 in
    let tally = c.run_life-closed.new.kept in
    let gives = m.gives c.rest.new.self in
    let is = is_first l p s first g.kept c.cluster_of.result life c.cluster_of.ensures.is (c.requires.1.1.1.1.1.1.1.1.1.1.1.1.1) c.in_ok-open_life.ensures.life in
    let so = is.so in
    let opened = subst (IsOpened so.cluster so.begins so.faults is.volumes) (sym c.into_inner-life.ensures) so.opened in
    let start = start_so so.cluster so.begins in
    let told = life_of so.cluster so.begins closed in
    let ran = rw c.in-Ok.is at (c.run_life-closed.ensures.ran so.cluster so.begins so.faults is.volumes opened) in
    let lived = subst (λ (its : List Item). HasLived p.tells so.cluster.banks its told ran.steps) c.items-items.ensures ran.lived in
    let kept : tally ≡ flat_map lines_in ran.steps = kept_lines tally_keeper.ghosts s.names c.none-tally.result tally ran.steps ran.kept_is c.none-tally.ensures (λ kept n. refl) (λ kept lines. refl) (λ kept dump. refl) in
    let size = ap length kept in
    let few = lived.few in
    let long : length tally < 2 ^ 64 = omega (arith, size, few) in
    let fewer = verdicts_few tally in
    let commands : c.commands.result ≡ length (flat_map lines_in ran.steps) = c.commands.ensures long ∙ size in
    let verdicts : c.verdicts.result ≡ verdicts_in (flat_map lines_in ran.steps) = c.verdicts.ensures (omega (arith, fewer, long)) ∙ ap verdicts_in kept in
    let exact = c.in-Ok-text.ensures ∙ ap summary_text c.of-summary.ensures ∙ ap (λ h. summary_text (summary_by h c.commands.result c.verdicts.result)) c.items.ensures in
    let full = subst (λ (x : Cluster). IsFullMulti x.base.multi × IsFullMulti x.base.oldest_multi) opened.begun.cluster c.have_full_multis.ensures in
    let base : BeginsWithBase (report_of told ran.steps None) = record {
      is_base = subst (λ (x : Cluster). IsBase x.base) opened.begun.cluster opened.begun.host.cluster.base;
      multi = full.0;
      oldest_multi = full.1;
    } in
    let only = subst (λ volumes. Only volumes gives) c.into_volumes.ensures c.rest.ensures.same in
    with_counts p.tells s c.in-Ok-text.text.items so.cluster.banks start (report_of told ran.steps None ∷ [])
    (λ banks begins lives. LeavesVolumes l p (BeginsOver l p first g.kept s banks begins) m.falls gives lives)
    (counts_told p.tells so.cluster.banks start s told ran.steps c.in-Ok-text.text.items c.commands.result c.verdicts.result so.opened.banks.few (c.requires.1.1.1.1.1.1.1.1.1.1.1.0) lived (record { from = refl; base = refl }) base commands verdicts exact)
    (left_alone l p so.cluster so.begins so.faults is.volumes life closed ran.steps (BeginsOver l p first g.kept s so.cluster.banks start) m.falls gives so.opened so.opens is.began only ran.left)
