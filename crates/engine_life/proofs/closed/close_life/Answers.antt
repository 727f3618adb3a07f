use Rattle.std.proofs.Common.{ap, subst, sym, ◌∙◌}
use Rattle.disk_core.specs.Pages.{Pages}
use Rattle.hall.specs.Calls.{start_of, view}
use Rattle.notes.specs.Lists.{at as list_at}
use Rattle.proc_table.specs.Table.{Table}
use Rattle.recoverable.specs.Whole.{MembersLeft, OffsetsLeft}
use Rattle.tx_core.specs.Locks.{log_lock, members_lock, offsets_lock}
use Rattle.tx_events.specs.Base.{IsBase}
use Rattle.engine_parts.specs.declared.part.Part.TheVariants as parts
use Rattle.engine_parts.specs.LogTail.{LogTail, log_tail}
use Rattle.engine_parts.proofs.Beginning.{log_begins}
use Rattle.engine_parts.specs.Parts.{IsLogOf}
use Rattle.engine_host.specs.Stores.{Store, of_members, of_offsets, of_subtrans, of_xact, volumes_in}
use Rattle.engine_life.proofs.Counts.{as_many, each_behind, each_told}
use Rattle.engine_life.proofs.Fitting.{all_follow, end_fit}
use Rattle.engine_life.proofs.Followed.{follows_here}
use Rattle.engine_life.proofs.MultisFollowed.{members_here, offsets_here}
use Rattle.engine_life.specs.Lives.{FollowsList}
use Rattle.wal_core.specs.LogViews.{log_checkpoint, log_counters, log_disk, log_down, log_first, log_flushed, log_next, log_recs}
use Rattle.bank_follows.proofs.LogEnds.{log_held}
use Rattle.engine_life.proofs.closed.close_life.Goals as goal

pub take_apart-log-requires-clause-stand : goal.take_apart-log-requires-clause-stand
take_apart-log-requires-clause-stand g c lock part there =
    (start_of c.args.life.hall, list_at (view c.args.life.host.pass).seen lock, c.close-parts.ensures.stand lock part there)

pub returns-clause-events : goal.returns-clause-events
returns-clause-events g c =
    let taken = c.take_apart-log in
    let stands = c.close-parts.ensures.stand 1 (parts.Proc taken.result.table) taken.ensures.table in
    c.into_parts-events.ensures.events ∙ (ap (λ (t : Table). t.events) c.into_inner-table.ensures ∙ stands.1.events)

-- the log that was behind the box stands for its list
pub returns-clause-log : goal.returns-clause-log
returns-clause-log g c =
    let taken = c.take_apart-log in
    let es = list_at (view c.args.life.host.pass).seen log_lock in
    subst (λ l. IsLogOf (start_of c.args.life.hall) l es) (sym c.into_inner-log.ensures) (c.close-parts.ensures.stand 0 (parts.Log taken.result.log) taken.ensures.log).1

pub returns-clause-end : goal.returns-clause-end
returns-clause-end g c = ap (λ (t : LogTail). t.gate) (returns-clause-log g c).tail_is

pub returns-clause-begins : goal.returns-clause-begins
returns-clause-begins g c tells = log_begins g.L.LogDisk (start_of c.args.life.hall) c.into_inner-log.result (list_at (view c.args.life.host.pass).seen log_lock) (returns-clause-log g c) tells

pub returns-clause-counted : goal.returns-clause-counted
returns-clause-counted g c =
    let taken = c.take_apart-log in
    let start = start_of c.args.life.hall in
    let seen = (view c.args.life.host.pass).seen in
    let locks = c.close-parts.result.locks.items in
    let closed = c.close-parts.ensures in
    let banks = c.args.life.host.cluster.banks in
    let log = subst (λ l. IsLogOf start l (list_at seen log_lock)) (sym c.into_inner-log.ensures) (closed.stand 0 (parts.Log taken.result.log) taken.ensures.log).1 in
    let told = λ (k : Store). each_told start seen locks closed.stand k banks (volumes_in k taken.result.volumes).items c.requires.host.banks closed.count (taken.ensures.volumes k) in
    record {
      log = log.count;
      xact = told of_xact;
      subtrans = told of_subtrans;
      offsets = told of_offsets;
      members = told of_members;
    }

pub returns-clause-banks : goal.returns-clause-banks
returns-clause-banks g c =
    let taken = c.take_apart-log in
    let start = start_of c.args.life.hall in
    let seen = (view c.args.life.host.pass).seen in
    let locks = c.close-parts.result.locks.items in
    let closed = c.close-parts.ensures in
    let banks = c.args.life.host.cluster.banks in
    let many = λ (k : Store). as_many start seen locks closed.stand k banks (volumes_in k taken.result.volumes).items c.requires.host.banks closed.count (taken.ensures.volumes k) in
    record {
      xact = many of_xact;
      subtrans = many of_subtrans;
      offsets = many of_offsets;
      members = many of_members;
    }

pub returns-clause-states : goal.returns-clause-states
returns-clause-states g c told few =
    let p = g.P.PageDisk in
    let taken = c.take_apart-log in
    let start = start_of c.args.life.hall in
    let seen = (view c.args.life.host.pass).seen in
    let closed = c.close-parts.ensures in
    each_behind start seen c.close-parts.result.locks.items closed.stand of_xact (FollowsList p start seen) (follows_here p start seen told (λ d x now. g.met.P.PageDisk.only_now d x told now) closed.kept few)
    c.args.life.host.cluster.banks taken.result.volumes.xact.items c.requires.host.banks closed.count (taken.ensures.volumes of_xact)

pub returns-clause-multis : goal.returns-clause-multis
returns-clause-multis g c =
    let taken = c.take_apart-log in
    let stands = c.close-parts.ensures.stand 2 (parts.Multi taken.result.multis) taken.ensures.multis in
    stands.1.events

pub returns-clause-multi_pages : goal.returns-clause-multi_pages
returns-clause-multi_pages g c told few =
    let p = g.P.PageDisk in
    let taken = c.take_apart-log in
    let start = start_of c.args.life.hall in
    let seen = (view c.args.life.host.pass).seen in
    let closed = c.close-parts.ensures in
    let locks = c.close-parts.result.locks.items in
    let banks = c.args.life.host.cluster.banks in
    let host = c.requires.host in
    let base : IsBase start.base = subst IsBase (sym host.base) host.cluster.base in
    let only : (v : g.row.P.Denot) (x : Pages) → p.left_at v (p.moment v) x → p.images v x = λ v x now. g.met.P.PageDisk.only_now v x told now in
    let many = λ (k : Store). as_many start seen locks closed.stand k banks (volumes_in k taken.result.volumes).items host.banks closed.count (taken.ensures.volumes k) in
    record {
      offsets_are = all_follow p start.banks (λ bank x. OffsetsLeft start bank (list_at seen (offsets_lock bank)) x) taken.result.volumes.offsets.items (many of_offsets)
          (each_behind start seen locks closed.stand of_offsets (λ bank v. (x : Pages) → p.images v x → OffsetsLeft start bank (list_at seen (offsets_lock bank)) x)
          (offsets_here p start seen told only closed.kept base few) banks taken.result.volumes.offsets.items host.banks closed.count (taken.ensures.volumes of_offsets));
      members_are = all_follow p start.banks (λ bank x. MembersLeft start bank (list_at seen (members_lock bank)) x) taken.result.volumes.members.items (many of_members)
          (each_behind start seen locks closed.stand of_members (λ bank v. (x : Pages) → p.images v x → MembersLeft start bank (list_at seen (members_lock bank)) x)
          (members_here p start seen told only closed.kept base few) banks taken.result.volumes.members.items host.banks closed.count (taken.ensures.volumes of_members));
    }

pub returns-clause-fit : goal.returns-clause-fit
returns-clause-fit g c tells told right few few_multis =
    let d = g.L.LogDisk in
    let p = g.P.PageDisk in
    let taken = c.take_apart-log in
    let start = start_of c.args.life.hall in
    let seen = (view c.args.life.host.pass).seen in
    let closed = c.close-parts.ensures in
    let locks = c.close-parts.result.locks.items in
    let banks = c.args.life.host.cluster.banks in
    let log = c.into_inner-log.result in
    let stands = subst (λ z. IsLogOf start z (list_at seen log_lock)) (sym c.into_inner-log.ensures) (closed.stand 0 (parts.Log taken.result.log) taken.ensures.log).1 in
    let held = log_held start seen d.tells (d.faults (log_disk log)) (d.images (log_disk log)) (log_recs log) (log_next log) (log_first log) (log_flushed log) (log_counters log) (log_down log) (log_checkpoint log) (log_tail log) closed.kept stands tells right.told in
    let states = each_behind start seen locks closed.stand of_xact (FollowsList p start seen) (follows_here p start seen told (λ v x now. g.met.P.PageDisk.only_now v x told now) closed.kept few) banks taken.result.volumes.xact.items c.requires.host.banks closed.count (taken.ensures.volumes of_xact) in
    let count = as_many start seen locks closed.stand of_xact banks taken.result.volumes.xact.items c.requires.host.banks closed.count (taken.ensures.volumes of_xact) in
    end_fit d p start seen _ held.0 (log_recs log) (log_next log) (log_first log) closed.kept right few few_multis
    held.1 held.2 count states (returns-clause-multi_pages g c told few_multis)
