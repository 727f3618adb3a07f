-- A command's events of multixacts stay its events in longer histories.
use Rattle.std.proofs.Common.{◌≡◌, ℕ, ◌<◌, ◌≤◌, List, [], ◌∷◌, ◌++◌, Some, inl, inr, sym, subst, arith, ⊎_elim, length, take}
use Rattle.std.proofs.lemmas.List.{take-append-le}
use Rattle.std.proofs.lemmas.Option.{slice_get_within}
use Rattle.std.specs.List.{AllZip}
use Rattle.tx_events.specs.declared.event.By.{By}
use Rattle.tx_events.specs.declared.event.Event.{Event}
use Rattle.tx_events.specs.declared.multi.Member.{Member}
use Rattle.tx_events.specs.declared.multi.MultiEvent.{MultiEvent}
use Rattle.tx_events.specs.declared.multi.MultiEvent.TheVariants as multis
use Rattle.tx_events.specs.declared.record.Counters.{Counters}
use Rattle.tx_events.specs.declared.refusal.Refusal.TheVariants as refusals
use Rattle.tx_events.specs.History.{next_given}
use Rattle.tx_events.specs.Multis.{next_made}
use Rattle.tx_events.specs.Nearest.{near_id}
use Rattle.tx_events.proofs.PlaceLemmas.{slice_get-grows}
use Rattle.tx_model.specs.declared.command.Command.{Command}
use Rattle.tx_model.specs.declared.command.Command.TheVariants as commands
use Rattle.tx_model.specs.declared.command.Pair.{Pair}
use Rattle.tx_model.specs.declared.reply.Reply.{Reply}
use Rattle.tx_model.specs.declared.reply.Reply.TheVariants as replies
use Rattle.tx_model.specs.Replies.{RoundSpan}
use Rattle.life_law.specs.MultiLines.{AreGiven, ArePinnedNear, HasMultiEvents, IsMemberOf}

all_zip : {X Y : Type 0} (P Q : X → Y → Type 0) → ((x : X) (y : Y) → P x y → Q x y) → (xs : List X) (ys : List Y) → AllZip P xs ys → AllZip Q xs ys
all_zip P Q up [] [] a = a
all_zip P Q up [] (y ∷ ys) a = a
all_zip P Q up (x ∷ xs) [] a = a
all_zip P Q up (x ∷ xs) (y ∷ ys) a = (up x y a.0, all_zip P Q up xs ys a.1)

module _ (base : Counters) (h rest : List Event) (all more : List MultiEvent) (by : By) (round wider : RoundSpan) (from : wider.from ≤ round.from) (to : round.to ≤ wider.to) (within : round.to ≤ length h) where
  member_grows : (pair : Pair) (member : Member) → IsMemberOf base h round by pair member → IsMemberOf base (h ++ rest) wider by pair member
  member_grows pair member m =
      let r = m.read in
      let same : take m.place (h ++ rest) ≡ take m.place h = take-append-le m.place h rest (omega (arith, r.1, within)) in record {
        mode = m.mode;
        place = m.place;
        read = (omega (arith, r.0, from), omega (arith, r.1, to));
        near = subst (λ (t : List Event). near_id (next_given base.next t) pair.x.number ≡ Some member.id) (sym same) m.near;
        normal = m.normal;
        given = subst (λ (t : List Event). member.id < next_given base.next t) (sym same) m.given;
      }

  given_grows : (pairs : List Pair) (es : List MultiEvent) → AreGiven base h round by pairs es → AreGiven base (h ++ rest) wider by pairs es
  given_grows pairs es g = record {
    multi = g.multi;
    offset = g.offset;
    members = g.members;
    events_are = g.events_are;
    told = all_zip (IsMemberOf base h round by) (IsMemberOf base (h ++ rest) wider by) member_grows pairs g.members g.told;
  }

  pinned_grows : (m : ℕ) (es : List MultiEvent) → ArePinnedNear base all by m es → ArePinnedNear base (all ++ more) by m es
  pinned_grows m es p =
      let low = slice_get_within all p.0 (multis.Hold by p.2.0) p.2.1 in (
        p.0,
        p.1,
        (p.2.0, slice_get-grows all more (multis.Hold by p.2.0) p.0 p.2.1),
        subst (λ (t : List MultiEvent). near_id (next_made base.multi t) m ≡ Some p.1) (sym (take-append-le p.0 all more (omega arith))) p.3,
        p.4,
      )

  pub events_grow : (command : Command) (reply : Reply) (es : List MultiEvent) → HasMultiEvents base h round all by command reply es → HasMultiEvents base (h ++ rest) wider (all ++ more) by command reply es
  events_grow (commands.Multi pairs) (replies.Multi multi offset warn) es e = (e.0, given_grows pairs es e.1)
  events_grow (commands.Multi pairs) (replies.Refused refusal) es e = ⊎_elim inl (λ g. inr (g.0, given_grows pairs es g.1)) e
  events_grow (commands.SeeMulti name m) (replies.Verdicts verdicts) es e = pinned_grows m.number es e
  events_grow (commands.SeeMulti name m) (replies.Refused (refusals.NotYet next)) es e = pinned_grows m.number es e
  events_grow (commands.SeeMulti name m) (replies.Refused (refusals.DiskFault lock)) es e = pinned_grows m.number es e
  events_grow (commands.SeeMulti name m) (replies.Refused refusals.Memory) es e = ⊎_elim inl (λ p. inr (pinned_grows m.number es p)) e
  events_grow command reply es e = e
