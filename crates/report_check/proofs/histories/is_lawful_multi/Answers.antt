use Rattle.std.proofs.Common.{◌≡◌, ◌<◌, ◌≤◌, List, Some, length, take, ap, subst, sym, ◌∙◌, arith}
use Rattle.std.specs.List.{slice_get}
use Rattle.std.specs.Prelude.{slice_index}
use Rattle.tx_events.specs.declared.event.By.{By}
use Rattle.tx_events.specs.declared.multi.MultiEvent.{MultiEvent}
use Rattle.tx_events.specs.Multis.{MultiMayCome, multi_by}
use Rattle.tx_model.specs.declared.report.Life.{Life}
use Rattle.report_law.specs.Events.{IsLawfulMulti}
use Rattle.report_law.specs.MultiLines.{of_records}
use Rattle.report_check.proofs.Judging.{all_there, as_started, item_is, may_so, multi_by_all, never_both, never_true}
use Rattle.report_check.proofs.histories.is_lawful_multi.Goals as goal

pub returns-then-by-last : goal.returns-then-by-last
returns-then-by-last g c = λ e at.
    let items : c.items-multis.result.now ≡ g.j.life.multis = c.items-multis.ensures ∙ ap (λ (l : Life). l.multis) c.requires.0.life in
    let same : c.index-multis-place.result ≡ e = item_is g.j.life.multis c.items-multis.result.now c.args.place c.index-multis-place.result e items c.index-multis-place.is at in
    let by : c.by-by.result ≡ multi_by e = c.by-by.ensures ∙ ap multi_by same in
    let few : (multi_by e).session < 64 = all_there (λ (x : MultiEvent). (multi_by x).session < 64) g.j.life.multis c.args.place e c.requires.1.1.0 at in
    let latest = c.requires.1.1.1.0 in
    never_both (IsLawfulMulti g.j c.args.place e)
    (λ l.
    let turn : slice_index c.args.last.now (multi_by e).session ≤ (multi_by e).command = (latest.each (multi_by e).session (multi_by e).command few).1 l.turn in
    let there : slice_index c.args.last.now c.by-by.result.session ≤ c.by-by.result.command = subst (λ (b : By). slice_index c.args.last.now b.session ≤ b.command) (sym by) turn in
    let less = c.if-by-last.true in
    omega arith)

pub returns-then-not-multi_may_come_at : goal.returns-then-not-multi_may_come_at
returns-then-not-multi_may_come_at g c = λ e at.
    let known = c.requires.1.0 in
    let legal = as_started g.j c.args.known.now.multi_places.starts known.offsets (take c.args.place g.j.life.multis) c.requires.1.1.1.1.1 in
    let may = may_so g.j c.args.known.now.multi_places.starts known.offsets (take c.args.place g.j.life.multis) e c.multi_may_come_at.result
    (c.multi_may_come_at.ensures g.j.begun.counters c.args.known.now.multi_places.starts g.j.life.multis e known.multi_front legal at) in
    never_both (IsLawfulMulti g.j c.args.place e)
    (λ l. never_true c.multi_may_come_at.result (MultiMayCome g.j.begun.counters (of_records g.j.begun.counters g.j.begun.recorded) (take c.args.place g.j.life.multis) e) c.if-not-multi_may_come_at.true may l.rule)

pub is_its_multi-requires : goal.is_its_multi-requires
is_its_multi-requires g c =
    let known = c.requires.1.0 in
    let items : c.items-multis.result.now ≡ g.j.life.multis = c.items-multis.ensures ∙ ap (λ (l : Life). l.multis) c.requires.0.life in
    let size : length c.items-multis.result.now ≡ length g.j.life.multis = ap length items in
    let in_range : c.args.place < length g.j.life.multis = c.requires.1.1.1.1.0 in
    let within : c.args.place < length c.items-multis.result.now = omega arith in
    (known.table, (known.multis, (items, (within, λ e at s. c.in_ok-told.ensures e (ap (λ (h : List MultiEvent). slice_get h c.args.place) (sym items) ∙ at) s))))

pub returns : goal.returns
returns g c = λ e at.
    let known = c.requires.1.0 in
    let items : c.items-multis.result.now ≡ g.j.life.multis = c.items-multis.ensures ∙ ap (λ (l : Life). l.multis) c.requires.0.life in
    let same : c.index-multis-place.result ≡ e = item_is g.j.life.multis c.items-multis.result.now c.args.place c.index-multis-place.result e items c.index-multis-place.is at in
    let by : c.by-by.result ≡ multi_by e = c.by-by.ensures ∙ ap multi_by same in
    let few : (multi_by e).session < 64 = all_there (λ (x : MultiEvent). (multi_by x).session < 64) g.j.life.multis c.args.place e c.requires.1.1.0 at in
    let latest = c.requires.1.1.1.0 in
    let there : slice_index c.args.last.now c.by-by.result.session ≤ c.by-by.result.command = c.if-by-last.false in
    let turn = (latest.each (multi_by e).session (multi_by e).command few).0 (subst (λ (b : By). slice_index c.args.last.now b.session ≤ b.command) by there) in
    let legal = as_started g.j c.args.known.now.multi_places.starts known.offsets (take c.args.place g.j.life.multis) c.requires.1.1.1.1.1 in
    let may = (may_so g.j c.args.known.now.multi_places.starts known.offsets (take c.args.place g.j.life.multis) e c.multi_may_come_at.result
    (c.multi_may_come_at.ensures g.j.begun.counters c.args.known.now.multi_places.starts g.j.life.multis e known.multi_front legal at)).0 c.if-not-multi_may_come_at.false in
    let here : slice_get c.items-multis.result.now c.args.place ≡ Some e = ap (λ (h : List MultiEvent). slice_get h c.args.place) items ∙ at in
    multi_by_all g.j c.args.place e c.is_its_multi.result may turn (c.is_its_multi.ensures e here)
