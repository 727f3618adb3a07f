-- Sessions that stand the same, and what they are given.
use Rattle.std.proofs.Common.{◌≡◌, ℕ, Bool, List, [], ◌∷◌, ◌++◌, Option, Ok, sym, ap, subst, ◌∙◌}
use Rattle.notes.specs.Lists.{at}
use Rattle.tx_events.specs.declared.event.Event.{Event}
use Rattle.tx_model.specs.CommandEvents.{giving}
use Rattle.proc_table.specs.declared.answers.Given.TheVariants as answers
use Rattle.tx_core.specs.declared.entry.Entry.{Entry}
use Rattle.tx_core.specs.declared.entry.Start.{Start}
use Rattle.tx_core.specs.Entries.{history}
use Rattle.tx_core.specs.ProgramOrder.{IsInTurn}
use Rattle.session_levels.specs.declared.session.RegisteredSnapshot.{RegisteredSnapshot}
use Rattle.session_levels.specs.declared.session.Session as plain
use Rattle.session_levels.specs.Stands.{last_of, levels_of}
use Rattle.session_levels.proofs.StandsLemmas.{Stood, stands, stood}
use Rattle.engine_parts.specs.declared.session.Session.{Session}
use Rattle.engine_parts.specs.declared.session.Stage.{Stage}
use Rattle.engine_parts.specs.declared.session.Unlinked.{Unlinked}
use Rattle.engine_parts.specs.Holds.{Knowledge}
use Rattle.engine_parts.specs.Sessions.{IsFiled, MayCall, by_at}
use Rattle.tx_model.specs.CommandEvents.{innermost}
use Rattle.engine_parts.specs.Stages.{AreUnaborted, IsInStage, may_be_aborted, may_be_recorded}
use Rattle.engine_parts.specs.Makings.{Makes}
use Rattle.engine_parts.specs.Steps.{WentOn}
use Rattle.proc_sections.specs.Givings.{GivesId, IsGivenIn, IsNamed, naming, unlinked_of}
use Rattle.xact_writes.specs.Writes.{HasReserved, IsAlike, IsGivenLater}

pub reserved_from : (s s' : plain.Session) → s' ≡ s → HasReserved s s'
reserved_from s s' q = record { commands = ap (λ z. z.commands) q; named = ap (λ z. z.level_ids.items) q; unnamed = ap (λ z. z.unnamed) q; opened = ap (λ z. z.open_ids.items) q; registered = ap (λ z. z.registered) q }

pub alike_from : (s s' : Session) → s' ≡ s → IsAlike s s'
alike_from s s' q = record { levels = reserved_from s.levels s'.levels (ap (λ z. z.levels) q); stage = ap (λ z. z.stage) q; unlinked = ap (λ z. z.unlinked) q; making = ap (λ z. z.making) q }

pub reserved_then : (a b c : plain.Session) → HasReserved a b → HasReserved b c → HasReserved a c
reserved_then a b c p q = record { commands = q.commands ∙ p.commands; named = q.named ∙ p.named; unnamed = q.unnamed ∙ p.unnamed; opened = q.opened ∙ p.opened; registered = q.registered ∙ p.registered }

pub alike_then : (a b c : Session) → IsAlike a b → IsAlike b c → IsAlike a c
alike_then a b c p q = record { levels = reserved_then a.levels b.levels c.levels p.levels q.levels; stage = q.stage ∙ p.stage; unlinked = q.unlinked ∙ p.unlinked; making = q.making ∙ p.making }

pub call_alike : (start : Start) (v : Knowledge) (n : ℕ) (s s' : Session) → MayCall start v n s → IsAlike s s' → MayCall start v n s'
call_alike start v n s s' m k =
    let a = m.ready.at in
    let l = k.levels in
    let h : List Event = history v.seen in record {
      ready = record {
        free = m.ready.free;
        at = record {
          base = a.base;
          before = a.before;
          kept = a.kept;
          name = a.name;
          known = a.known;
          wide = a.wide;
          turns = λ lock. subst (λ (z : ℕ). IsInTurn start (at v.seen lock) (by_at n z)) (sym l.commands) (a.turns lock);
          stands = stands start.base h n s'.levels.commands s'.levels
              (subst (λ (z : (ℕ × List ℕ) × ((List ℕ × ℕ) × List RegisteredSnapshot)). Stood start.base h n z.0.0 z.0.1 z.1.0.0 z.1.0.1 z.1.1)
              (λ j. ((sym l.commands j, sym l.opened j), ((sym l.named j, sym l.unnamed j), sym (ap (λ z. z.items) l.registered) j)))
              (stood start.base h n s.levels.commands s.levels a.stands));
          clear = λ q. a.clear (ap may_be_recorded (sym k.stage) ∙ q);
          unaborted = λ q. subst (AreUnaborted v.seen n) (sym l.opened) (a.unaborted (ap may_be_aborted (sym k.stage) ∙ q));
          filed = subst (λ (z : List ℕ × Option Unlinked). IsFiled start v.seen n z.0 z.1) (λ j. (sym l.opened j, sym k.unlinked j)) a.filed;
          makes = subst (Makes start v.seen n) (sym k.making) a.makes;
        };
      };
      stage = subst (λ (z : ((List ℕ × ℕ) × List ℕ) × Stage). IsInStage start v.seen n (innermost (levels_of z.0.0.0 z.0.0.1)) z.0.1 z.1) (λ j. (((sym l.named j, sym l.unnamed j), sym l.opened j), sym k.stage j)) m.stage;
    }

pub named_alike : (a b c : Session) (id : ℕ) → IsAlike a b → IsNamed b c id → IsNamed a c id
named_alike a b c id p q = let l = p.levels in record {
  named = q.named ∙ ap (λ (ids : List ℕ). ids ++ id ∷ []) l.named;
  opened = q.opened ∙ ap (λ (ids : List ℕ). ids ++ id ∷ []) l.opened;
  unnamed = q.unnamed ∙ l.unnamed;
  registered = q.registered ∙ l.registered;
  count = q.count ∙ l.commands;
  stage = q.stage ∙ p.stage;
  unlinked = q.unlinked ∙ ap (λ (ids : List ℕ). unlinked_of id (last_of ids)) l.named;
  making = q.making ∙ p.making;
}

pub given_alike : (start : Start) (n : ℕ) (a b c : Session) (id : ℕ) (warn : Bool) (lists more : List (List Entry)) → IsAlike a b → GivesId start n b c lists more (Ok (answers.Id id warn)) → GivesId start n a c lists more (Ok (answers.Id id warn))
given_alike start n a b c id warn lists more p g =
    let e : naming n b id ≡ naming n a id = λ j. giving (by_at n (p.levels.commands j)) (last_of (p.levels.named j)) id in (
      subst (λ (x : Event). WentOn n (x ∷ []) lists more) e g.0,
      subst (λ (x : Event). IsGivenIn start n x id warn lists more) e g.1,
      named_alike a b c id p g.2,
    )

pub later_alike : (start : Start) (n : ℕ) (a b c : Session) (id : ℕ) (warn : Bool) (lists more : List (List Entry)) → IsAlike a b → IsGivenLater start n b c id warn lists more → IsGivenLater start n a c id warn lists more
later_alike start n a b c id warn lists more p g = record { middle = g.middle; went = g.went; given = given_alike start n a b c id warn g.middle more p g.given }
