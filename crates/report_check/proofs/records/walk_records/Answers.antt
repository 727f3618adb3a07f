use Rattle.std.proofs.Common.{◌≡◌, ℕ, List, Option, Some, IfSome, IfNone, length, ap, sym, subst, ◌∙◌, arith}
use Rattle.std.specs.List.{slice_get}
use Rattle.tx_events.specs.declared.record.Rec.{Rec}
use Rattle.tx_model.specs.declared.report.Life.{Life}
use Rattle.history_places.specs.MultiTold.{MultiReplayed}
use Rattle.report_check.proofs.Sections.{placed_broken}
use Rattle.report_check.proofs.Walks.{placed_length}
use Rattle.multi_rules.proofs.GenPlaces.{bound_at}
use Rattle.record_rules.specs.Judging.{IsFirstUnlawful}
use Rattle.report_law.specs.Records.{IsLawfulRecord}
use Rattle.report_law.specs.ReportLines.{logged}
use Rattle.report_check.proofs.Recorded.{all_legal, placed_all, placed_each}
use Rattle.report_check.proofs.records.walk_records.Goals as goal

pub first_unlawful_record-requires : goal.first_unlawful_record-requires
first_unlawful_record-requires g c =
    let r = c.requires in
    let known = r.1.0.0 in
    let same : c.args.multis.now ≡ g.at.known.multi_places = r.1.0.1 in
    (sym r.1.1.0, (r.0.life, (r.0.steps, (known.base, (r.1.1.1.1.0, (r.1.1.1.0, (ap (λ (m : MultiReplayed). m.base) same ∙ known.multi_front.base_is, (ap (λ (m : MultiReplayed). m.events) same ∙ all_legal g.at.j g.at.known.multi_places known.multi_front known.offsets r.1.1.1.1.1.0, r.1.1.1.1.1.1.asked))))))))

pub returns-in-Some : goal.returns-in-Some
returns-in-Some g c =
    let recs = g.at.j.life.recs in
    let f : IsFirstUnlawful g.at.j c.in-Some.place = subst (λ (o : Option ℕ). IfSome o (IsFirstUnlawful g.at.j)) c.in-Some.is c.in_ok-first.ensures.some in
    let place = c.in-Some.place in
    let within = bound_at recs place f.rec f.stands in
    let front = placed_each (logged g.at.j) recs place (omega arith) (λ p rec l e. f.before p rec l e) in
    placed_broken (logged g.at.j) recs place f.rec front f.stands f.unlawful

pub returns-in-None : goal.returns-in-None
returns-in-None g c =
    let recs = g.at.j.life.recs in
    let items : c.items.result.now ≡ recs = c.items.ensures ∙ ap (λ (l : Life). l.recs) c.requires.0.life in
    let each = subst (λ (o : Option ℕ). IfNone o ((p : ℕ) (rec : Rec) → slice_get recs p ≡ Some rec → IsLawfulRecord g.at.j p rec)) c.in-None.is c.in_ok-first.ensures.none in
    (placed_all (logged g.at.j) recs (λ p rec e. each p rec e), ap (λ (rs : List Rec). length rs) items ∙ sym (placed_length (logged g.at.j) 0 recs))
