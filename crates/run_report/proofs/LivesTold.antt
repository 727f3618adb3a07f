-- All lives of a run can be told, one behind another.
use Rattle.std.proofs.Common.{◌≡◌, ℕ, ◌+◌, ◌^◌, ◌<◌, ◌≤◌, Bool, List, [], ◌∷◌, ◌++◌, None, Some, refl, sym, ap, subst, ◌∙◌, arith, length, append-nil, append_assoc, length-append}
use Rattle.std.proofs.lemmas.List.Elements.{filter_map-append}
use Rattle.std.specs.List.{AllByRecursion, flat_map, range_with_len}
use Rattle.tx_events.specs.Places.{first_seen}
use Rattle.tx_events.proofs.ListSteps.{all_push, all_weaker, length_push}
use Rattle.tx_model.specs.declared.report.How.{How}
use Rattle.tx_model.specs.declared.report.LifeReport.{LifeReport}
use Rattle.session_lang.specs.declared.script.Item.{Item}
use Rattle.session_lang.specs.declared.script.Item.TheVariants as items
use Rattle.session_lang.specs.Rounds.{asked_of, session_of, sessions_in}
use Rattle.report_words.specs.Fits.{AreNames}
use Rattle.report_read.specs.AsRead.{life_as_read, lives_as_read}
use Rattle.report_read.specs.Item as told_items
use Rattle.report_read.specs.Grammar.{after}
use Rattle.report_read.specs.Reports.{IsReport, nothing_told}
use Rattle.report_read.specs.declared.told.Stage.TheVariants as stages
use Rattle.report_read.specs.declared.told.Told.{Told}
use Rattle.run_law.specs.Lives.{AreLivesOf, BeginWithBases, BeginsWithBase, LifePart, parts_from, parts_of}
use Rattle.run_report.proofs.Asking.{ItemFits, asked_fit, asked_sessions, sessions_short}
use Rattle.run_report.proofs.LifeSteps.{rounds_seen, seen_join}
use Rattle.run_report.proofs.LifeTold.{CanBegin, IsSmall, Leads, Standing, heard, life_leads, stage_behind}
use Rattle.run_report.proofs.Reaching.{Reaches, follows_on, reach_on}
use Rattle.run_report.proofs.Readings.{counters_fit}
use Rattle.run_report.proofs.Turns.{Climbs, Cut, climbs, climbs_apart}

-- ---- the parts of a script

-- what a script says of the items of a part
pub record PartFits (names : List (List ℕ)) (p : LifePart) : Type 0 where
  pub items : AllByRecursion (ItemFits names) p.items
  pub few : length p.items ≤ 2 ^ 25

parts_fit : (names : List (List ℕ)) (before its : List Item) → AllByRecursion (ItemFits names) before → AllByRecursion (ItemFits names) its → length before + length its ≤ 2 ^ 25 → AllByRecursion (PartFits names) (parts_from before its)
parts_fit names before [] b a few = (record { items = b; few = omega arith }, tt)
parts_fit names before (items.Crash how ∷ its) b a few = (record { items = b; few = omega arith }, parts_fit names [] its tt a.1 (omega arith))
parts_fit names before (items.Run s c ∷ its) b a few = parts_fit names (before ++ items.Run s c ∷ []) its (all_push (ItemFits names) before (items.Run s c) b a.0) a.1 (let l = length_push before (items.Run s c) in omega arith)
parts_fit names before (items.Round ∷ its) b a few = parts_fit names (before ++ items.Round ∷ []) its (all_push (ItemFits names) before items.Round b a.0) a.1 (let l = length_push before items.Round in omega arith)
parts_fit names before (items.Checkpoint ∷ its) b a few = parts_fit names (before ++ items.Checkpoint ∷ []) its (all_push (ItemFits names) before items.Checkpoint b a.0) a.1 (let l = length_push before items.Checkpoint in omega arith)
parts_fit names before (items.Dump what at size ∷ its) b a few = parts_fit names (before ++ items.Dump what at size ∷ []) its (all_push (ItemFits names) before (items.Dump what at size) b a.0) a.1 (let l = length_push before (items.Dump what at size) in omega arith)

-- each but the last ends with a crash
abbrev EndOnce : List LifePart → Type 0
EndOnce [] = ⊥
EndOnce (p ∷ []) = p.crash ≡ None
EndOnce (p ∷ (q ∷ parts)) = ((how : How) × (p.crash ≡ Some how)) × EndOnce (q ∷ parts)

end_more : (p : LifePart) (how : How) (parts : List LifePart) → p.crash ≡ Some how → EndOnce parts → EndOnce (p ∷ parts)
end_more p how [] e x = absurd x
end_more p how (q ∷ parts) e x = ((how, e), x)

parts_end : (before its : List Item) → EndOnce (parts_from before its)
parts_end before [] = refl
parts_end before (items.Crash how ∷ its) = end_more (record { items = before; crash = Some how }) how (parts_from [] its) refl (parts_end [] its)
parts_end before (items.Run s c ∷ its) = parts_end (before ++ items.Run s c ∷ []) its
parts_end before (items.Round ∷ its) = parts_end (before ++ items.Round ∷ []) its
parts_end before (items.Checkpoint ∷ its) = parts_end (before ++ items.Checkpoint ∷ []) its
parts_end before (items.Dump what at size ∷ its) = parts_end (before ++ items.Dump what at size ∷ []) its

parts_few : (before its : List Item) → length (parts_from before its) ≤ length its + 1
parts_few before [] = omega arith
parts_few before (items.Crash how ∷ its) = let r = parts_few [] its in omega arith
parts_few before (items.Run s c ∷ its) = let r = parts_few (before ++ items.Run s c ∷ []) its in omega arith
parts_few before (items.Round ∷ its) = let r = parts_few (before ++ items.Round ∷ []) its in omega arith
parts_few before (items.Checkpoint ∷ its) = let r = parts_few (before ++ items.Checkpoint ∷ []) its in omega arith
parts_few before (items.Dump what at size ∷ its) = let r = parts_few (before ++ items.Dump what at size ∷ []) its in omega arith

-- ---- their sessions

abbrev heard_in : List LifePart → List ℕ
heard_in parts = flat_map (λ (p : LifePart). sessions_in p.items) parts

abbrev all_heard : List LifeReport → List ℕ
all_heard lives = flat_map heard lives

moved : (before its : List Item) (x : Item) → sessions_in (before ++ x ∷ []) ++ sessions_in its ≡ sessions_in before ++ sessions_in (x ∷ its)
moved before its x = sym (filter_map-append session_of (before ++ x ∷ []) its) ∙ ap sessions_in (append_assoc before (x ∷ []) its) ∙ filter_map-append session_of before (x ∷ its)

-- those of the parts are the script's
parts_sessions : (before its : List Item) → heard_in (parts_from before its) ≡ sessions_in before ++ sessions_in its
parts_sessions before [] = refl
parts_sessions before (items.Crash how ∷ its) = ap (λ t. sessions_in before ++ t) (parts_sessions [] its)
parts_sessions before (items.Run s c ∷ its) = parts_sessions (before ++ items.Run s c ∷ []) its ∙ moved before its (items.Run s c)
parts_sessions before (items.Round ∷ its) = parts_sessions (before ++ items.Round ∷ []) its ∙ moved before its items.Round
parts_sessions before (items.Checkpoint ∷ its) = parts_sessions (before ++ items.Checkpoint ∷ []) its ∙ moved before its items.Checkpoint
parts_sessions before (items.Dump what at size ∷ its) = parts_sessions (before ++ items.Dump what at size ∷ []) its ∙ moved before its (items.Dump what at size)

-- in the lives they first appear as in the parts
lives_seen : (tells : Bool) (banks : ℕ) (parts : List LifePart) (lives : List LifeReport) → AreLivesOf tells banks parts lives → first_seen (all_heard lives) ≡ first_seen (heard_in parts)
lives_seen tells banks [] [] a = refl
lives_seen tells banks (p ∷ parts) (r ∷ lives) a =
    seen_join (heard r) (sessions_in p.items) (all_heard lives) (heard_in parts)
    (rounds_seen 1 (asked_of p.items) r.steps a.0.told ∙ ap first_seen (asked_sessions p.items)) (lives_seen tells banks parts lives a.2)
lives_seen tells banks [] (r ∷ lives) a = absurd a
lives_seen tells banks (p ∷ parts) [] a = absurd a

-- ---- the lives

all_can : (lives : List LifeReport) → BeginWithBases lives → AllByRecursion CanBegin lives
all_can lives bases = all_weaker BeginsWithBase CanBegin (λ r k. record { base_is = k.is_base; counters = counters_fit r.life.base k.is_base k.multi k.oldest_multi }) lives bases

module _ (tells : Bool) (banks : ℕ) (names : List (List ℕ)) (few_banks : banks ≤ 16) (are : AreNames names) (few : length names ≤ 64) where
  small_part : (p : LifePart) → PartFits names p → IsSmall names (asked_of p.items)
  small_part p f = record { names_are = are; few = few; turns = let all = ap length (asked_sessions p.items) in let s = sessions_short p.items in let m = f.few in omega arith }

  lives_lead : (parts : List LifePart) (lives before : List LifeReport) (k k' : ℕ) (t : Told) → AreLivesOf tells banks parts lives → EndOnce parts → AllByRecursion (PartFits names) parts → AllByRecursion CanBegin lives → Climbs k (all_heard lives) k' → Standing names k stages.Between before t → length before + length parts < 2 ^ 64 →
      Leads names k' stages.Closed (before ++ lives_as_read lives) t
  lives_lead (p ∷ []) (r ∷ []) before k k' t a e f c climb standing short =
      subst (λ stage. Leads names k' stage (before ++ life_as_read r ∷ []) t) (ap stage_behind (a.1 ∙ e))
      (life_leads tells banks names k k' (asked_of p.items) r t before few_banks a.0 c.0 (small_part p f.0) (asked_fit names [] p.items tt f.0.items) (subst (λ xs. Climbs k xs k') (append-nil (heard r)) climb) standing (omega arith))
  lives_lead (p ∷ (q ∷ parts)) (r ∷ lives) before k k' t a e f c climb standing short =
      let cut : Cut k (heard r) (all_heard lives) k' = climbs_apart k k' (heard r) (all_heard lives) climb in
      let first = subst (λ stage. Leads names cut.middle stage (before ++ life_as_read r ∷ []) t) (ap stage_behind (a.1 ∙ e.0.1))
      (life_leads tells banks names k cut.middle (asked_of p.items) r t before few_banks a.0 c.0 (small_part p f.0) (asked_fit names [] p.items tt f.0.items) cut.front standing (omega arith)) in
      let rest = lives_lead (q ∷ parts) lives (before ++ life_as_read r ∷ []) cut.middle k' first.last a.2 e.1 f.1 c.1 cut.behind first.standing (let l = length_push before (life_as_read r) in omega arith) in
      record {
        last = rest.last;
        reach = reach_on t first.last rest.last first.reach rest.reach;
        standing = subst (λ ls. Standing names k' stages.Closed ls rest.last) (append_assoc before (life_as_read r ∷ []) (lives_as_read lives)) rest.standing;
      }
  lives_lead [] lives before k k' t a e f c climb standing short = absurd e
  lives_lead (p ∷ []) (r ∷ (q ∷ lives)) before k k' t a e f c climb standing short = absurd a.2
  lives_lead (p ∷ parts) [] before k k' t a e f c climb standing short = absurd a

  -- behind the title
  titled : Told
  titled = after nothing_told told_items.title

  title_stands : Standing names 0 stages.Between [] titled
  unfolding titled nothing_told
  title_stands = record { known = []; rest = names; split = refl; names_are = refl; count = refl; stage_is = refl; lives_are = refl }

  title_reach : (last : Told) → Reaches titled last → Reaches nothing_told last
  unfolding titled nothing_told
  title_reach last r = follows_on nothing_told titled last told_items.title (record { stands = refl; rule = refl; told = refl }) r

  none_left : (known rest : List (List ℕ)) → names ≡ known ++ rest → length known ≡ length names → known ≡ names
  none_left known [] e l = sym (e ∙ append-nil known)
  none_left known (n ∷ rest) e l = let k = ap length e in let m = length-append known (n ∷ rest) in absurd (omega arith)

  -- lawful lives whose parts are a script's are told by a report that can be read back
  pub told_again : (script : List Item) (lives : List LifeReport) → AllByRecursion (ItemFits names) script → length script ≤ 2 ^ 25 → first_seen (sessions_in script) ≡ range_with_len 0 (length names)
      → AreLivesOf tells banks (parts_of script) lives → BeginWithBases lives → IsReport (record { names = names; lives = lives_as_read lives })
  told_again script lives fit short seen a bases =
      let order : first_seen (all_heard lives) ≡ range_with_len 0 (length names) = lives_seen tells banks (parts_of script) lives a ∙ ap first_seen (parts_sessions [] script) ∙ seen in
      let lead = lives_lead (parts_of script) lives [] 0 (length names) titled a (parts_end [] script) (parts_fit names [] script tt fit (omega (arith, short))) (all_can lives bases) (climbs (length names) (all_heard lives) order) title_stands
      (let n = parts_few [] script in omega arith) in
      let reach = title_reach lead.last lead.reach in
      let known = none_left lead.standing.known lead.standing.rest lead.standing.split lead.standing.count in
      record {
        run = reach.run;
        last = lead.last;
        goes = reach.goes;
        closed = lead.standing.stage_is;
        told =
            ap (λ ns. record { names = ns; lives = lives_as_read lives }) (sym (lead.standing.names_are ∙ known))
            ∙ ap (λ ls. record { names = lead.last.names; lives = ls }) (sym lead.standing.lives_are);
      }
