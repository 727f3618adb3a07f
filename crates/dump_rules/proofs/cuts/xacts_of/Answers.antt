use Rattle.std.proofs.Common.{◌≡◌, ◌+◌, ◌++◌, ◌∷◌, [], List, ap, sym, subst, ◌∙◌, arith, take}
use Rattle.std.proofs.lemmas.List.{take_more}
use Rattle.std.specs.Ordering.{nat_cmp}
use Rattle.tx_events.specs.declared.record.Rec.{Rec}
use Rattle.record_rules.specs.Firsts.{HasKeys}
use Rattle.dump_rules.specs.Cutting.{cuts_xact, first_cut}
use Rattle.dump_rules.proofs.cuts.xacts_of.Goals as goal

pub loop-rec-preserved : goal.loop-rec-preserved
loop-rec-preserved c =
    let recs = c.args.recs.now in
    let i = c.loop-rec.rec-index in
    let more : take (i + 1) recs ≡ take i recs ++ c.rec-item.result ∷ [] = take_more recs i c.rec-item.result (omega arith) ∙ ap (λ (r : Rec). take i recs ++ r ∷ []) (sym c.rec-item.is) in
    subst (λ (t : List Rec). HasKeys nat_cmp (cuts_xact c.args.base.now.oldest) (first_cut c.args.base.now ∷ t) c.note_xact.new.xacts) (sym more) (c.in_ok-note_xact.ensures (first_cut c.args.base.now ∷ take i recs) c.loop-rec.invariant)
