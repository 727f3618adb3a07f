use Rattle.std.proofs.Common.{◌≡◌, ◌%◌, ◌<◌, Err, ap, arith, length, length-append, length-drop, refl, sym, subst, ◌∙◌, ℕ}
use Rattle.std.proofs.lemmas.List.{length-take, with_items_is}
use Rattle.hall.specs.Calls.{start_of, view}
use Rattle.tx_events.specs.declared.refusal.Lock.TheVariants as locks
use Rattle.tx_model.specs.declared.report.DumpOf.TheVariants as dumps
use Rattle.tx_model.specs.declared.reply.Reply.{Reply}
use Rattle.tx_events.specs.Base.{IsBase}
use Rattle.tx_core.specs.Locks.{subtrans_lock}
use Rattle.host_calls.specs.Dumps.{IsAnswered, IsCutTold, IsFaultCounted, ShowsBytes}
use Rattle.host_calls.specs.Shown.{HasFailed, ShowsSubtrans}
use Rattle.host_calls.proofs.FaultsTold.{bank_counted, bank_shows, bytes_counted}
use Rattle.host_calls.proofs.Cutoffs.{subtrans_cut_told, subtrans_refused, subtrans_told}
use Rattle.host_calls.proofs.answering.show_subtrans.Goals as goal

pub bank_of-bank-requires : goal.bank_of-bank-requires
bank_of-bank-requires g c = c.requires.home.is_host.cluster.banks.0

pub dump_subtrans-requires-clause-range : goal.dump_subtrans-requires-clause-range
dump_subtrans-requires-clause-range g c = omega (arith, ap length c.as_mut_slice.ensures.value, c.in_ok-bytes.ensures.len, c.requires.size)

pub returns-in_err-bytes-clause-stays : goal.returns-in_err-bytes-clause-stays
returns-in_err-bytes-clause-stays g c = record { home = c.requires.home; cluster = refl; seen = refl; parked = λ n s q. q }

pub returns-in-Ok-clause-reply : goal.returns-in-Ok-clause-reply
returns-in-Ok-clause-reply g c =
    let hall = c.args.hall.now in
    let host = c.args.host.now in
    let start = start_of hall in
    let seen = (view host.pass).seen in
    let base : IsBase start.base = subst IsBase (sym c.requires.home.is_host.base) c.requires.home.is_host.cluster.base in
    let told = c.bytes_reply.ensures in
    let uncut = c.in-Ok.ensures.uncut in
    let sized = c.in_ok-bytes.ensures.len in
    let all = ap length c.as_mut_slice.ensures.value in
    let len = c.as_mut_slice.ensures.len in
    let kept = c.dump_subtrans.auto.into in
    subst (λ (r : Reply). IsAnswered hall host (dumps.Subtrans c.args.page) c.args.size r) (sym told.reply)
    (told.bytes, simp (length-take, length-append, length-drop) (omega arith), uncut.0, subtrans_told start seen (c.args.page % start.banks) uncut.0 base c.dump_subtrans.ensures.kept uncut.1, uncut.2)

pub returns-in-Err-clause-reply : goal.returns-in-Err-clause-reply
returns-in-Err-clause-reply g c =
    let hall = c.args.hall.now in
    let host = c.args.host.now in
    let start = start_of hall in
    let seen = (view host.pass).seen in
    let h = c.requires.home.is_host in
    let base : IsBase start.base = subst IsBase (sym h.base) h.cluster.base in
    let here : c.bank_of-bank.result ≡ c.args.page % start.banks = c.bank_of-bank.ensures.value ∙ ap (λ n. c.args.page % n) (sym h.banks) in
    let low : c.bank_of-bank.result < start.banks = omega (arith, h.banks, c.bank_of-bank.ensures.within) in
    subst (λ (r : Reply). IsAnswered hall host (dumps.Subtrans c.args.page) c.args.size r) (sym c.refused.ensures)
    (subtrans_refused start seen c.args.page c.args.size c.bank_of-bank.result c.in-Err.refusal base c.dump_subtrans.ensures.kept here low (λ cutoff e. c.in-Err.ensures.cut cutoff (ap Err e)))

pub returns-in-Ok-clause-bytes : goal.returns-in-Ok-clause-bytes
returns-in-Ok-clause-bytes g c =
    let start = start_of c.args.hall.now in
    let seen = (view c.args.host.now.pass).seen in
    let now = c.dump_subtrans.new.into in
    let size : length c.as_mut_slice.result.now ≡ c.args.size = c.as_mut_slice.ensures.len ∙ c.in_ok-bytes.ensures.len in
    let long : length now ≡ c.in_ok-bytes.bytes.len = c.dump_subtrans.auto.into ∙ c.as_mut_slice.ensures.len in
    subst (ShowsBytes g.L.LogDisk g.P.PageDisk start seen (dumps.Subtrans c.args.page) c.args.at c.args.size) (sym c.bytes_reply.ensures.reply)
    (λ tells. subst (ShowsSubtrans start seen c.args.page c.args.at c.args.size) (sym (with_items_is c.in_ok-bytes.bytes now long))
    (subst (λ (n : ℕ). ShowsSubtrans start seen c.args.page c.args.at n now) size (c.in-Ok.ensures.bytes tells)))

pub returns-in-Ok-clause-fault : goal.returns-in-Ok-clause-fault
returns-in-Ok-clause-fault g c =
    let start = start_of c.args.hall.now in
    let seen = (view c.args.host.now.pass).seen in
    bytes_counted g.L.LogDisk g.P.PageDisk start seen c.bytes_reply.result _ c.bytes_reply.ensures.reply

pub returns-in-Err-clause-bytes : goal.returns-in-Err-clause-bytes
returns-in-Err-clause-bytes g c =
    let start = start_of c.args.hall.now in
    let seen = (view c.args.host.now.pass).seen in
    subst (ShowsBytes g.L.LogDisk g.P.PageDisk start seen (dumps.Subtrans c.args.page) c.args.at c.args.size) (sym c.refused.ensures)
    (bank_shows g.L.LogDisk g.P.PageDisk start seen (dumps.Subtrans c.args.page) c.args.at c.args.size (locks.Subtrans c.bank_of-bank.result) c.in-Err.refusal)

pub returns-in-Err-clause-fault : goal.returns-in-Err-clause-fault
returns-in-Err-clause-fault g c =
    let start = start_of c.args.hall.now in
    let seen = (view c.args.host.now.pass).seen in
    let here : c.bank_of-bank.result ≡ c.args.page % start.banks = c.bank_of-bank.ensures.value ∙ ap (λ n. c.args.page % n) (sym c.requires.home.is_host.banks) in
    subst (IsFaultCounted g.L.LogDisk g.P.PageDisk start seen) (sym c.refused.ensures)
    (bank_counted g.L.LogDisk g.P.PageDisk start seen (locks.Subtrans c.bank_of-bank.result) c.in-Err.refusal
    (λ e. subst (λ (n : ℕ). HasFailed g.L.LogDisk g.P.PageDisk start seen (subtrans_lock n)) (sym here) (c.in-Err.ensures.fault (ap Err e))))

pub returns-in-Ok-clause-cut : goal.returns-in-Ok-clause-cut
returns-in-Ok-clause-cut g c =
    let start = start_of c.args.hall.now in
    let seen = (view c.args.host.now.pass).seen in
    subst (IsCutTold g.P.PageDisk.tells start seen (dumps.Subtrans c.args.page)) (sym c.bytes_reply.ensures.reply) tt

pub returns-in-Err-clause-cut : goal.returns-in-Err-clause-cut
returns-in-Err-clause-cut g c =
    let start = start_of c.args.hall.now in
    let seen = (view c.args.host.now.pass).seen in
    subst (IsCutTold g.P.PageDisk.tells start seen (dumps.Subtrans c.args.page)) (sym c.refused.ensures)
    (subtrans_cut_told g.P.PageDisk.tells start seen c.args.page (locks.Subtrans c.bank_of-bank.result) c.in-Err.refusal (λ cutoff e. c.in-Err.ensures.cut cutoff (ap Err e)))
