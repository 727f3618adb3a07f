-- Where a command may read.
use Rattle.std.proofs.Common.{◌≡◌, ℕ, suc, ◌+◌, ◌<◌, ◌≤◌, List, [], ◌∷◌, ◌++◌, Some, get_or, length, map, ap, sym, subst, ◌∙◌, arith}
use Rattle.std.specs.Prelude.{IsTrue}
use Rattle.std.specs.Global.{Vec}
use Rattle.std.specs.List.{slice_get}
use Rattle.std.proofs.lemmas.List.Elements.{All-contains}
use Rattle.std.proofs.lemmas.Option.{slice_get-get_or}
use Rattle.tx_events.specs.declared.event.By.{By}
use Rattle.tx_model.specs.declared.report.Line.{Line}
use Rattle.tx_events.proofs.Membership.{has_contains}
use Rattle.place_columns.specs.Lined.{Numbered, bys_of, line_by, lines_from, numbered}
use Rattle.place_columns.proofs.LineSteps.{bys_are}
use Rattle.place_columns.specs.declared.own.Own.{Own}
use Rattle.place_columns.specs.Owned.{AreAllOwn, own_of}
use Rattle.turn_links.specs.declared.links.Link.{Link}
use Rattle.turn_links.specs.Links.{AreAllLinks, AreLinks}
use Rattle.place_rules.specs.declared.reading.Reading.{Reading}
use Rattle.place_rules.specs.Readings.{IsReading, span_of}
use Rattle.multi_rules.specs.declared.reading.MultiReading.{MultiReading}
use Rattle.multi_rules.specs.MultiReadings.{IsMultiReading}
use Rattle.report_law.specs.Steps.{lines_of}
use Rattle.place_columns.proofs.Numbering.{number_is}
use Rattle.event_rules.proofs.Standing.{at_number, in_order, within}
use Rattle.event_rules.proofs.Judging.{few_steps}
use Rattle.history_places.proofs.Growing.{has_there}
use Rattle.reply_lines.specs.At.{AtLine, IsAsking, IsRoundAt, StandsThere, lines_at, multi_span_at, rounds_at, span_at}
use Rattle.event_rules.specs.SnapsTold.{told_by, told_in, told_lists}
use Rattle.reply_lines.specs.Known.{IsKnown}
use Rattle.reply_lines.specs.declared.known.Known.{Known}
use Rattle.reply_lines.specs.declared.rounds.RoundAt.{RoundAt}
use Rattle.reply_lines.proofs.Spots.{by_at}

-- a session's list among all
pub its_list : (bys : List By) (lists : List (Vec Own)) (session : ℕ) (v : Vec Own) (own : List Own) → AreAllOwn bys 64 lists → session < 64 → v ≡ get_or lists session v → own ≡ v.items → own ≡ own_of session bys
its_list bys lists session v own all few is same = same ∙ ap (λ (x : Vec Own). x.items) is ∙ all.each session few v

-- and how a look back goes over them
pub its_links : (lists : List (Vec Own)) (links : List (Vec Link)) (session : ℕ) (v : Vec Own) (w : Vec Link) (own : List Own) (ls : List Link) → AreAllLinks lists links → session < length lists → v ≡ get_or lists session v → w ≡ get_or links session w → own ≡ v.items → ls ≡ w.items
    → AreLinks own ls × (length ls ≡ length own)
its_links lists links session v w own ls all low is are same alike =
    let size = all.size in
    let a = slice_get-get_or lists session v low ∙ ap (λ (x : Vec Own). Some x) (sym is) in
    let b = slice_get-get_or links session w (omega arith) ∙ ap (λ (x : Vec Link). Some x) (sym are) in
    let z = all.each session v w a b in
    (subst (λ (xs : List Link). AreLinks own xs) (sym alike) (subst (λ (xs : List Own). AreLinks xs w.items) (sym same) z.0), ap (λ (xs : List Link). length xs) alike ∙ z.1 ∙ sym (ap (λ (xs : List Own). length xs) same))

-- ---- the line

pub line_stands : (at : AtLine) (number : ℕ) (l : Line) → StandsThere at number l → slice_get (lines_of at.j) number ≡ Some l
line_stands at number l s = subst (λ n. slice_get (lines_of at.j) n ≡ Some l) (sym s.number_is) (at_number at.j.steps at.round at.place at.step l s.told s.stands)

pub number_stands : (at : AtLine) (number : ℕ) (l : Line) → StandsThere at number l → slice_get (bys_of (lines_from 0 at.j.steps)) number ≡ Some l.by
number_stands at number l s = ap (λ (t : List By). slice_get t number) (bys_are 0 at.j.steps) ∙ by_at (lines_of at.j) number l (line_stands at number l s)

right : {X : Type 0} (xs ys : List X) (n : ℕ) → slice_get (xs ++ ys) (length xs + n) ≡ slice_get ys n
right {X} [] ys n = let z : 0 + n ≡ n = omega arith in ap (λ k. slice_get ys k) z
right {X} (x ∷ xs) ys n = let z : suc (length xs) + n ≡ suc (length xs + n) = omega arith in ap (λ k. slice_get (x ∷ (xs ++ ys)) k) z ∙ right xs ys n

-- its session is one of few
pub few_sessions : (at : AtLine) (k : Known) (number : ℕ) (l : Line) → IsKnown at.j k → StandsThere at number l → l.by.session < 64
few_sessions at k number l known s =
    All-contains (λ (b : By). b.session < 64) (map line_by (lines_of at.j)) l.by known.few
    (has_contains (map line_by (lines_of at.j)) l.by (has_there (map line_by (lines_of at.j)) number l.by (by_at (lines_of at.j) number l (line_stands at number l s))))

pub few_by : (at : AtLine) (k : Known) (number : ℕ) (l : Line) (by : By) → IsKnown at.j k → StandsThere at number l → l.by ≡ by → by.session < 64
few_by at k number l by known s is = subst (λ (b : By). b.session < 64) is (few_sessions at k number l known s)

pub asking_is : (at : AtLine) (k : Known) (round : RoundAt) (number : ℕ) (by : By) (l : Line) (reading : Reading) (multis : MultiReading) → IsKnown at.j k → IsRoundAt at.j (rounds_at at) (lines_at at) k round → IsTrue round.judged → l.by ≡ by → StandsThere at number l → by.session < 64
    → IsReading k.places.events (span_of round.from round.to) by reading → IsMultiReading k.multi_places.events (span_of round.multi_from round.multi_to) by multis
    → IsAsking at k (record { by = by; number = number; from = round.from; to = round.to; multi_from = round.multi_from; multi_to = round.multi_to; reading = reading; multis = multis })
asking_is at k round number by l reading multis known r judged is s few read multi_read = record {
  known = known;
  told = s.told;
  number = number_stands at number l s ∙ ap (λ (b : By). Some b) is;
  judged = r.judged.0 judged;
  from = r.from;
  to = r.to;
  few = few;
  multi_forward = r.multi_forward;
  within = r.within judged;
  multi_from = r.multi_from;
  multi_to = r.multi_to;
  multi_within = r.multi_within judged;
  reading = subst (λ n. IsReading k.places.events (span_of n (span_at at).to) by reading) r.from (subst (λ n. IsReading k.places.events (span_of round.from n) by reading) r.to read);
  multi_reading = subst (λ n. IsMultiReading k.multi_places.events (span_of n (multi_span_at at).to) by multis) r.multi_from (subst (λ n. IsMultiReading k.multi_places.events (span_of round.multi_from n) by multis) r.multi_to multi_read);
  its = (length (rounds_at at) + at.place, l, right (rounds_at at) (lines_at at) at.place ∙ s.stands, is);
}

-- what its reply tells of a snapshot
pub told_at_line : (at : AtLine) (k : Known) (number : ℕ) (l : Line) → IsKnown at.j k → StandsThere at number l → told_by at.j l.by ≡ told_lists l.reply
told_at_line at k number l known s =
    ap (λ n. told_in (slice_get (lines_of at.j) n)) (number_is (lines_from 0 at.j.steps) number l.by (in_order at.j known.order) (number_stands at number l s))
    ∙ ap told_in (line_stands at number l s)

pub few_numbers : (at : AtLine) (number : ℕ) (l : Line) (own : Numbered) (bys : List By) → own ≡ numbered (lines_from 0 at.j.steps) bys → StandsThere at number l → number ≤ length own.steps
few_numbers at number l own bys is s =
    let w = within (lines_of at.j) number l (line_stands at number l s) in
    few_steps at.j number own bys is (omega arith)
