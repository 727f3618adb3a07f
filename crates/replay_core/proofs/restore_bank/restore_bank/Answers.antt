use Rattle.std.proofs.Common.{Err, ◌≡◌, ◌∙◌, ap, rules, subst, true}
use Rattle.tx_events.specs.PageOrder.{Ids, is_cut}
use Rattle.store_pages.specs.Layouts.{xact_page_of}
use Rattle.tx_events.specs.LifeBase.{committed_in}
use Rattle.slru_bank.specs.Calls.{cutoff_of}
use Rattle.replay_core.specs.Redo.{IsNamed}
use Rattle.replay_core.proofs.Restoring.{flushed, page_kept, redo_failed, trim_failed}
use Rattle.replay_core.proofs.restore_bank.restore_bank.Goals as goal

pub returns-in_err-redo_records : goal.returns-in_err-redo_records
returns-in_err-redo_records g c =
    let all = redo_failed (IsNamed c.args.share.now c.args.oldest (committed_in c.args.recs.now)) c.args.next c.args.bank.now c.redo_records.new.bank _ c.in_err-redo_records.ensures in
    search (rules, all)

pub returns-in_err-trim_after : goal.returns-in_err-trim_after
returns-in_err-trim_after g c =
    let cutoff : cutoff_of c.redo_records.new.bank ≡ xact_page_of c.args.oldest = c.redo_records.ensures.cutoff ∙ c.requires.kept in
    let e = c.in_err-trim_after.ensures in
    let all = trim_failed (IsNamed c.args.share.now c.args.oldest (committed_in c.args.recs.now)) c.args.next c.args.bank.now c.redo_records.new.bank c.trim_after.new.bank c.in_ok-redo_records.ensures c.trim_after.ensures.crash _
    (λ n is. page_kept c.args.oldest c.args.next c.requires.window.0 c.requires.window.1 (subst (λ z. is_cut Ids 32768 z (xact_page_of c.args.next) ≡ true) cutoff (e.only_cut n (ap Err is)).2))
    (λ is. e.fault (ap Err is)) c.trim_after.ensures.count in
    search (rules, all)

pub returns : goal.returns
returns g c =
    flushed (IsNamed c.args.share.now c.args.oldest (committed_in c.args.recs.now)) c.args.next c.args.bank.now c.redo_records.new.bank c.trim_after.new.bank c.in_ok-redo_records.ensures c.trim_after.ensures.crash
    c.flush_all.new.self c.flush_all.result c.trim_after.ensures.count c.in_ok-trim_after.ensures.ok c.flush_all.ensures.durable c.flush_all.ensures.same c.flush_all.ensures.bank c.flush_all.ensures.crash
