use Rattle.std.proofs.Common.{◌≡◌, ◌<◌, ◌≤◌, List, length, get_or, take, ap, sym, subst, ◌∙◌, arith}
use Rattle.std.proofs.lemmas.Bool.{false≢true}
use Rattle.std.specs.List.{slice_get}
use Rattle.tx_events.specs.declared.record.Rec.{Rec}
use Rattle.tx_model.specs.declared.report.Life.{Life}
use Rattle.record_rules.specs.Firsts.{AreSeen}
use Rattle.record_rules.proofs.Walking.{before_more, one_further, stands_at, upto_more, within}
use Rattle.record_rules.proofs.records.first_unlawful_record.Goals as goal

pub returns-then-not-is_lawful_record-clause-some : goal.returns-then-not-is_lawful_record-clause-some
returns-then-not-is_lawful_record-clause-some g c =
    let i = c.loop-place.place in
    let rec = c.rec-item.result in
    let life = ap (λ (l : Life). l.recs) c.requires.1.0 in
    record {
      before = λ p r m s. c.loop-place.invariant.before p r m (ap (λ (t : List Rec). slice_get t p) life ∙ s);
      rec = rec;
      stands = sym (ap (λ (t : List Rec). slice_get t i) (c.items-rec-items.ensures ∙ life)) ∙ stands_at c.items-rec-items.result.now i rec c.loop-place-test.true c.rec-item.is;
      unlawful = λ w. false≢true (sym c.if-not-is_lawful_record.true ∙ c.is_lawful_record.ensures.1 w);
    }

pub loop-place-preserved : goal.loop-place-preserved
loop-place-preserved g c =
    let i = c.loop-place.place in
    let xs = c.args.report.now.life.recs in
    let rec = c.rec-item.result in
    let all = c.items-rec-items.ensures in
    let l : i < length xs = subst (λ (t : List Rec). i < length t) all c.loop-place-test.true in
    let is : rec ≡ get_or xs i rec = subst (λ (t : List Rec). rec ≡ get_or t i rec) all c.rec-item.is in
    let lawful = c.is_lawful_record.ensures.0 c.if-not-is_lawful_record.false in
    record {
      seen = subst (λ (t : List Rec). AreSeen t c.note_record.new.seen) (one_further xs i rec l is) (c.in_ok-note_record.ensures (take i xs) c.loop-place.invariant.seen);
      before = before_more g.j xs i rec (stands_at xs i rec l is) lawful c.loop-place.invariant.before;
      upto = upto_more g.j c.in_ok-judging.judging.broken i rec (c.in_ok-judging.ensures {u = tt}).broken c.loop-place.invariant.upto lawful;
    }

pub returns-clause-none : goal.returns-clause-none
returns-clause-none g c = λ p rec s.
    let xs = c.args.report.now.life.recs in
    let life = ap (λ (l : Life). l.recs) c.requires.1.0 in
    let there = ap (λ (t : List Rec). slice_get t p) life ∙ s in
    let w : p < length xs = within xs p rec there in
    let end : length xs ≤ c.loop-place.place = subst (λ (t : List Rec). length t ≤ c.loop-place.place) c.items-rec-items.ensures c.loop-place-test.false in
    c.loop-place.invariant.before p rec (omega arith) there
