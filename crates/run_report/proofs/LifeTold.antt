-- A life can be told behind those before it.
use Rattle.std.proofs.Common.{◌≡◌, ℕ, zero, suc, ◌+◌, ◌^◌, ◌<◌, ◌≤◌, Bool, true, List, [], ◌∷◌, ◌++◌, Option, None, Some, refl, sym, ap, subst, ◌∙◌, ⊎_elim, arith, length, get_or, IsTrue, length-append}
use Rattle.std.proofs.lemmas.List.Elements.{recursion_from_All}
use Rattle.std.specs.List.{AllByRecursion, flat_map}
use Rattle.std.specs.Prelude.{replicate, take}
use Rattle.tx_events.specs.Base.{IsBase}
use Rattle.tx_events.proofs.ListSteps.{all_weaker}
use Rattle.tx_model.specs.declared.report.How.{How}
use Rattle.tx_model.specs.declared.report.LifeReport.{LifeReport}
use Rattle.tx_model.specs.declared.report.Line.{Line}
use Rattle.tx_model.specs.declared.report.Step.{Step}
use Rattle.tx_model.specs.Asked.{Asked}
use Rattle.tx_model.specs.Rounds.{lines_in}
use Rattle.tx_model.specs.Lines.{has_line, span_of}
use Rattle.life_law.specs.Facts.{Facts}
use Rattle.life_law.specs.LawfulLife.{IsLawfulLife, facts_of}
use Rattle.report_words.specs.Fits.{AreNames, FitsCounters}
use Rattle.report_lines.specs.declared.life.LogHead.{LogHead}
use Rattle.report_lines.specs.declared.life.Start.{Start}
use Rattle.report_lines.specs.Fits.{FitsStart}
use Rattle.report_read.specs.AsRead.{life_as_read}
use Rattle.report_read.specs.Item.{Item}
use Rattle.report_read.specs.Item as items
use Rattle.report_read.specs.Grammar.{Follows, after, begins_step, life_told, no_counts, steps_told}
use Rattle.report_read.specs.declared.told.Stage.{Stage}
use Rattle.report_read.specs.declared.told.Stage.TheVariants as stages
use Rattle.report_read.specs.declared.told.Told.{Told}
use Rattle.life_law.specs.MultiPlaces.{has_multi_line, multi_span}
use Rattle.run_report.proofs.Fits.{CanTell, EventFits, MultiSaid, all_event_fit, all_multi_said, announces_fit, events_fit, multis_fit}
use Rattle.run_report.proofs.MultiFits.{GoodMultis, MultiNamed, made_fit}
use Rattle.run_report.proofs.Ids.{AnnouncesFit, all_ids_fit}
use Rattle.run_report.proofs.LifeSteps.{EachOn, LineIs, SaidSo, checkpoints_said, counted_from, dumps_fit, each_steps, lines_fit, lines_sayable, rounds_reach, rounds_said}
use Rattle.run_report.proofs.Reaching.{Between, Reaches, events_reach, follows_on, front_names, multis_reach, reach_on, records_reach, speakers, stays}
use Rattle.run_report.proofs.Records.{AreNumbered, log_fits, rest_fits}
use Rattle.run_report.proofs.Sizes.{AskedFits, lines_short, rounds_short, sessions_asked}
use Rattle.run_report.proofs.Turns.{Climbs, climbs_up}

-- ---- between two lives

-- so many names are known, the stage is this one, and these lives are told
pub record Standing (names : List (List ℕ)) (k : ℕ) (stage : Stage) (lives : List LifeReport) (t : Told) : Type 0 where
  pub known : List (List ℕ)
  pub rest : List (List ℕ)
  pub split : names ≡ known ++ rest
  pub names_are : t.names ≡ known
  pub count : length known ≡ k
  pub stage_is : t.stage ≡ stage
  pub lives_are : t.lives ≡ lives

-- lines lead there
pub record Leads (names : List (List ℕ)) (k : ℕ) (stage : Stage) (lives : List LifeReport) (t : Told) : Type 0 where
  pub last : Told
  pub reach : Reaches t last
  pub standing : Standing names k stage lives last

-- behind the crash of a life there may be another one
abbrev pub stage_behind : Option How → Stage
stage_behind None = stages.Closed
stage_behind (Some how) = stages.Between

-- ---- its lines

-- the sessions of its commands
abbrev pub heard : LifeReport → List ℕ
heard r = speakers (flat_map lines_in r.steps)

-- each of these sessions is known behind them
known_said : (names known : List (List ℕ)) (k : ℕ) (lines : List Line) → Climbs k (speakers lines) (length known) → AllByRecursion (SaidSo names) lines → AllByRecursion (SaidSo known) lines
known_said names known k [] c a = tt
known_said names known k (l ∷ lines) c a = ⊎_elim
    (λ (b : (l.by.session < k) × Climbs k (speakers lines) (length known)).
    let up = climbs_up k (length known) (speakers lines) b.1 in
    let low = b.0 in
    (record { session = omega (arith, up, low); command = a.0.command }, known_said names known k lines b.1 a.1))
    (λ (b : (l.by.session ≡ k) × Climbs (suc k) (speakers lines) (length known)).
    let up = climbs_up (suc k) (length known) (speakers lines) b.1 in
    let same = b.0 in
    (record { session = omega (arith, up, same); command = a.0.command }, known_said names known (suc k) lines b.1 a.1))
    c

-- ---- its end

-- the line behind the log: the crash, or behind the last life the report's last one
close : (t : Told) (crash : Option How) (names : List (List ℕ)) (k : ℕ) (known rest : List (List ℕ)) → names ≡ known ++ rest → t.names ≡ known → length known ≡ k → t.stage ≡ stages.Log → Leads names k (stage_behind crash) (t.lives ++ life_told t crash ∷ []) t
close t None names k known rest split same count log =
    let m : Told = after t items.last in
    record {
      last = m;
      reach = follows_on t m m items.last (record { stands = rw log refl; rule = refl; told = refl }) (stays m);
      standing = record { known = known; rest = rest; split = split; names_are = same; count = count; stage_is = refl; lives_are = refl };
    }
close t (Some how) names k known rest split same count log =
    let m : Told = after t (items.crash how) in
    record {
      last = m;
      reach = follows_on t m m (items.crash how) (record { stands = rw log refl; rule = refl; told = refl }) (stays m);
      standing = record { known = known; rest = rest; split = split; names_are = same; count = count; stage_is = refl; lives_are = refl };
    }

same_life : (r : LifeReport) (s : Start) (ss : List Step) → s ≡ record { from = r.life.from; base = r.life.base } → ss ≡ r.steps →
    life_as_read r ≡ record { life = record { from = s.from; base = s.base; committed = []; recorded = []; events = r.life.events; multis = r.life.multis; recs = r.life.recs; flushed = r.life.flushed; end = r.life.end }; steps = ss; crash = r.crash }
same_life r s ss e f =
    let make : Start → List Step → LifeReport = λ s ss. record { life = record { from = s.from; base = s.base; committed = []; recorded = []; events = r.life.events; multis = r.life.multis; recs = r.life.recs; flushed = r.life.flushed; end = r.life.end }; steps = ss; crash = r.crash } in
    let own : Start = record { from = r.life.from; base = r.life.base } in
    ap (λ x. make x r.steps) (sym e)
    ∙ ap (λ x. make s x) (sym f)

-- behind the steps of the life nothing of them is missing
record Ended (names : List (List ℕ)) (k : ℕ) (r : LifeReport) (t : Told) : Type 0 where
  known : List (List ℕ)
  rest : List (List ℕ)
  split : names ≡ known ++ rest
  names_are : t.names ≡ known
  count : length known ≡ k
  begins : begins_step t.stage ≡ true
  start : t.start ≡ record { from = r.life.from; base = r.life.base }
  steps_are : steps_told t.stage t ≡ r.steps

-- the numbers of its base can be told
pub record CanBegin (r : LifeReport) : Type 0 where
  pub base_is : IsBase r.life.base
  pub counters : FitsCounters r.life.base

ends_life : (tells : Bool) (banks : ℕ) (names : List (List ℕ)) (k : ℕ) (all : List Asked) (r : LifeReport) (t : Told) → IsLawfulLife tells banks all r → CanBegin r → AreNames t.names → length t.names ≤ 64 → AllByRecursion (EventFits t.names) r.life.events → AllByRecursion (MultiSaid t.names) r.life.multis → Ended names k r t → Leads names k (stage_behind r.crash) (t.lives ++ life_as_read r ∷ []) t
ends_life tells banks names k all r t lawful can are few named multis_named ended =
    let h = r.life.events in
    let n = r.life.from in
    let t4 : Told = after t items.history in
    let t5 : Told = record t4 { events = h } in
    let t6 : Told = after t5 items.multis in
    let head : LogHead = record { flushed = r.life.flushed; end = r.life.end } in
    let t6' : Told = record t6 { multis = r.life.multis } in
    let t7 : Told = after t6' (items.log head) in
    let good : GoodMultis r.life.base r.life.multis = record { base_is = can.base_is; counters = can.counters; legal = lawful.multis.legal } in
    let only : AllByRecursion MultiNamed r.life.multis = all_weaker (MultiSaid t.names) MultiNamed (λ e q. q.named) r.life.multis multis_named in
    let multis_told = multis_fit t6.names r.life.multis multis_named (made_fit r.life.base r.life.multis good) in
    let t8 : Told = record t7 { recs = r.life.recs } in
    let legal = lawful.history in
    let log = lawful.log in
    let fits = events_fit t4.names h named (all_ids_fit r.life.base h can.base_is legal) in
    let announced = all_weaker (EventFits t.names) AnnouncesFit (λ e q. announces_fit e q.named) h named in
    let short = log_fits n r.life.base h r.life.multis r.life.recs r.life.flushed r.life.end log in
    let numbered : AreNumbered n r.life.recs = subst (AreNumbered n) (sym log.split) ((refl, can.counters), rest_fits n r.life.base h r.life.multis r.life.recs r.life.flushed r.life.end can.base_is good only legal announced log) in
    let from : n ≡ t7.start.from + length t7.recs = let z : t.start.from ≡ n = ap (λ (s : Start). s.from) ended.start in omega arith in
    let history : Follows t items.history t4 = record { stands = ended.begins; rule = refl; told = refl } in
    let multis : Follows t5 items.multis t6 = record { stands = refl; rule = refl; told = refl } in
    let logs : Follows t6' (items.log head) t7 = record { stands = refl; rule = (refl, record { flushed = short.flushed_to; end = short.gate }); told = refl } in
    let closed = close t8 r.crash names k ended.known ended.rest ended.split ended.names_are ended.count refl in
    let told : t8.lives ++ life_told t8 r.crash ∷ [] ≡ t.lives ++ life_as_read r ∷ [] = ap (λ x. t.lives ++ x ∷ []) (sym (same_life r t.start (steps_told t.stage t) ended.start ended.steps_are)) in
    record {
      last = closed.last;
      reach =
          follows_on t t4 closed.last items.history history
          (reach_on t4 t5 closed.last (events_reach t4 h refl are few fits)
          (follows_on t5 t6 closed.last items.multis multis
          (reach_on t6 t6' closed.last (multis_reach t6 r.life.multis refl are few multis_told)
          (follows_on t6' t7 closed.last (items.log head) logs
          (reach_on t7 t8 closed.last (records_reach t7 r.life.recs n refl from short.few numbered) closed.reach)))));
      standing = subst (λ lives. Standing names k (stage_behind r.crash) lives closed.last) told closed.standing;
    }

-- ---- its beginning

get_same : (z n j : ℕ) → get_or (replicate n z) j z ≡ z
get_same z zero j = refl
get_same z (suc n) zero = refl
get_same z (suc n) (suc j) = get_same z n j

length_same : (z n : ℕ) → length (replicate n z) ≡ n
length_same z zero = refl
length_same z (suc n) = ap suc (length_same z n)

no_counts_length : length no_counts ≡ 64
unfolding no_counts
no_counts_length = length_same 0 64

no_counts_none : (j : ℕ) → get_or no_counts j 0 ≡ 0
unfolding no_counts
no_counts_none j = get_same 0 64 j

-- behind the line that begins the life
abbrev begin : Told → Start → Told
begin t s = after t (items.life (length t.lives + 1) s)

begins_between : (names : List (List ℕ)) (k : ℕ) (stage : Stage) (lives : List LifeReport) (t : Told) (s : Start) → Standing names k stage lives t → Between names k [] [] 0 (begin t s)
begins_between names k stage lives t s b = record {
  known = b.known;
  rest = b.rest;
  count = b.count;
  so_far = record { split = b.split; told = b.names_are; lengths = no_counts_length; counts = λ j q. no_counts_none j };
  begins = refl;
  steps = refl;
  round = refl;
}

begins_reach : (t : Told) (s : Start) → t.stage ≡ stages.Between → length t.lives + 1 < 2 ^ 64 → FitsStart s → Reaches t (begin t s)
begins_reach t s between few f =
    follows_on t (begin t s) (begin t s) (items.life (length t.lives + 1) s) (record { stands = rw between refl; rule = (refl, refl, few, f); told = refl }) (stays (begin t s))

-- ---- the life

-- the names are names, and the commands that are asked for are few
pub record IsSmall (names : List (List ℕ)) (all : List Asked) : Type 0 where
  pub names_are : AreNames names
  pub few : length names ≤ 64
  pub turns : length (sessions_asked all) ≤ 2 ^ 25

-- a lawful life whose commands are a script's
pub life_leads : (tells : Bool) (banks : ℕ) (names : List (List ℕ)) (k k' : ℕ) (all : List Asked) (r : LifeReport) (t : Told) (lives : List LifeReport) → banks ≤ 16 → IsLawfulLife tells banks all r → CanBegin r → IsSmall names all → AllByRecursion (AskedFits names) all → Climbs k (heard r) k' → Standing names k stages.Between lives t → length lives + 1 < 2 ^ 64 →
    Leads names k' (stage_behind r.crash) (lives ++ life_as_read r ∷ []) t
life_leads tells banks names k k' all r t lives few_banks lawful can_begin small fits climb standing count =
    let h = r.life.events in
    let lines : List Line = flat_map lines_in r.steps in
    let f : Facts = facts_of tells banks r.life r.steps in
    let start : Start = record { from = r.life.from; base = r.life.base } in
    let each : EachOn (LineIs f) [] lines = each_steps (LineIs f) [] r.steps (λ p step at q l there. record { round = span_of h (flat_map lines_in (take p r.steps)) (lines_in step); span = multi_span r.life.multis (flat_map lines_in (take p r.steps)) (lines_in step); lawful = lawful.lawful.each p step at q l there }) in
    let said = rounds_said names 1 all r.steps lawful.told fits in
    let lines_few : length lines ≤ 2 ^ 25 = let s = lines_short 1 all r.steps lawful.told in let m = small.turns in omega arith in
    let has = recursion_from_All (λ e. IsTrue (has_line lines e)) h lawful.lawful.no_other in
    let has_multi = recursion_from_All (λ e. IsTrue (has_multi_line lines e)) r.life.multis lawful.multis.no_other in
    let good : GoodMultis r.life.base r.life.multis = record { base_is = can_begin.base_is; counters = can_begin.counters; legal = lawful.multis.legal } in
    let fit = lines_fit names f lines lawful.history good (omega arith) each said in
    let named = all_event_fit names h r.life.multis lines fit has in
    let multis_said = all_multi_said names h r.life.multis lines fit has_multi in
    let announced = all_weaker (EventFits names) AnnouncesFit (λ e q. announces_fit e q.named) h named in
    let log = log_fits r.life.from r.life.base h r.life.multis r.life.recs r.life.flushed r.life.end lawful.log in
    let can : CanTell f = record { base = can_begin.base_is; history = lawful.history; announced = announced; banks = few_banks; flushed = log.flushed_to; multis = good; named = all_weaker (MultiSaid names) MultiNamed (λ e q. q.named) r.life.multis multis_said } in
    let sayable = lines_sayable names f lines can (omega arith) each said in
    let first : length t.lives + 1 < 2 ^ 64 = subst (λ (ls : List LifeReport). length ls + 1 < 2 ^ 64) (sym standing.lives_are) count in
    let w = rounds_reach names k k' [] [] 0 (begin t start) all r.steps small.names_are small.few (begins_between names k stages.Between lives t start standing) lawful.told fits (dumps_fit f r.steps few_banks lawful.dumps) sayable (counted_from f [] lines each) climb (let s = rounds_short names all fits in let m = small.turns in omega arith) tt (checkpoints_said f [] r.steps can lawful.checkpoints.each) in
    let known = w.between.known in
    let same : w.last.names ≡ known = w.between.so_far.told in
    let are : AreNames known = front_names known w.between.rest (subst AreNames w.between.so_far.split small.names_are) in
    let few : length known ≤ 64 = let l = ap length w.between.so_far.split in let m = small.few in omega (arith, l, m, length-append known w.between.rest) in
    let heard_of = known_said names known k lines (subst (λ n. Climbs k (speakers lines) n) (sym w.between.count) climb) said in
    let own_fit = lines_fit known f lines lawful.history good (omega arith) each heard_of in
    let own = all_event_fit known h r.life.multis lines own_fit has in
    let own_multis = all_multi_said known h r.life.multis lines own_fit has_multi in
    let end = ends_life tells banks names k' all r w.last lawful can_begin (subst AreNames (sym same) are) (subst (λ (ns : List (List ℕ)). length ns ≤ 64) (sym same) few) (subst (λ (ns : List (List ℕ)). AllByRecursion (EventFits ns) h) (sym same) own) (subst (λ (ns : List (List ℕ)). AllByRecursion (MultiSaid ns) r.life.multis) (sym same) own_multis)
    (record { known = known; rest = w.between.rest; split = w.between.so_far.split; names_are = same; count = w.between.count; begins = w.between.begins; start = w.start; steps_are = w.between.steps }) in
    record {
      last = end.last;
      reach = reach_on t (begin t start) end.last (begins_reach t start standing.stage_is first (record { from = let c = lawful.log.count in omega arith; base = can_begin.counters })) (reach_on (begin t start) w.last end.last w.reach end.reach);
      standing = subst (λ ls. Standing names k' (stage_behind r.crash) (ls ++ life_as_read r ∷ []) end.last) (w.lives ∙ standing.lives_are) end.standing;
    }
