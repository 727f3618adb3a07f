-- How a session stands at each command of a transaction, and what the command does there.
use Rattle.std.proofs.Common.{◌≡◌, ℕ, false, List, [], ◌∷◌, Option, None, Some, refl, sym, ap, subst, ◌∙◌, length}
use Rattle.tx_events.specs.declared.event.By.{By}
use Rattle.tx_events.specs.declared.event.Event.{Event}
use Rattle.tx_events.specs.declared.event.Event.TheVariants as events
use Rattle.tx_events.specs.Events.{given}
use Rattle.tx_events.specs.declared.order.Xid.{Xid}
use Rattle.tx_model.specs.declared.command.Command.{Command}
use Rattle.tx_model.specs.declared.command.Command.TheVariants as commands
use Rattle.tx_model.specs.declared.reply.Reply.{Reply}
use Rattle.tx_model.specs.declared.reply.Reply.TheVariants as replies
use Rattle.tx_model.specs.CommandEvents.{HasEvents, giving}
use Rattle.tx_model.specs.Replies.{RoundSpan}
use Rattle.tx_model.specs.Stance.{Stance, after, without_snap}
use Rattle.life_law.specs.Facts.{Facts}
use Rattle.life_law.specs.Pending.{pending_after}
use Rattle.life_law.specs.Refused.{by_standing, no_snapshot, refused_by}
use Rattle.life_law.specs.Replies.{IsLawfulReply}
use Rattle.script_gen.specs.Generated.{snapshot}
use Rattle.script_gen.proofs.Ranges.{IsDrawn}
use Rattle.run_report.specs.Counts.{is_failure, is_told_verdict}
use Rattle.script_gen.specs.Counts.{is_verdict}
use Rattle.run_report.proofs.Replies.{IsWide, ok_reply}

-- what is known of a command, its reply and its events, of a session that stands so and of which nothing is pending
pub record IsTold (f : Facts) (s : Stance) (by : By) (c : Command) (reply : Reply) (es : List Event) : Type 0 where
  pub round : RoundSpan
  pub has : HasEvents by s c reply es
  pub standing : by_standing reply ≡ refused_by c s None
  pub lawful : IsLawfulReply f round by s None c reply
  pub fine : is_failure reply ≡ false

-- the events of a command that did what it says
abbrev pub AreOf : Command → List Event → Type 0
AreOf commands.Write es = (by : By) × (parent : Option ℕ) × (id : ℕ) × (es ≡ giving by parent id ∷ [])
AreOf commands.Undo es = (by : By) × (id : ℕ) × (es ≡ events.Undo by id ∷ [])
AreOf commands.Commit es = (by : By) × (top : ℕ) × (es ≡ events.Commit by top ∷ [])
AreOf commands.Abort es = (by : By) × (top : ℕ) × (es ≡ events.Abort by top ∷ [])
AreOf (commands.Snap name) es = (by : By) × (es ≡ events.Snap name by ∷ [])
AreOf (commands.DropSnap name) es = (by : By) × (es ≡ events.SnapDrop name by ∷ [])
AreOf command es = es ≡ []

-- ---- where in a transaction a session is

-- outside one; in one without an id, and with one; in a savepoint without an id, and with one; with a snapshot
pub data Place : Type 0 where
  Outside : Place
  Begun : Place
  Given : Place
  Saved : Place
  SavedGiven : Place
  Looking : Place

abbrev pub standing : List (Option ℕ) → List (List ℕ × ℕ) → Stance
standing levels snaps = record { levels = levels; snaps = snaps }

abbrev pub At : Place → Stance → Type 0
At Outside s = s ≡ standing [] []
At Begun s = s ≡ standing (None ∷ []) []
At Given s = (top : ℕ) × (s ≡ standing (Some top ∷ []) [])
At Saved s = (top : ℕ) × (s ≡ standing (Some top ∷ None ∷ []) [])
At SavedGiven s = (top : ℕ) × (id : ℕ) × (s ≡ standing (Some top ∷ Some id ∷ []) [])
At Looking s = (top : ℕ) × (number : ℕ) × (s ≡ standing (Some top ∷ []) ((snapshot, number) ∷ []))

abbrev pub next : Place → Command → Option Place
next Outside commands.Begin = Some Begun
next Begun commands.Write = Some Given
next Given commands.Save = Some Saved
next Saved commands.Write = Some SavedGiven
next SavedGiven commands.Undo = Some Given
next SavedGiven commands.Release = Some Given
next Given (commands.Snap name) = Some Looking
next Looking (commands.See name x) = Some Looking
next Looking (commands.DropSnap name) = Some Given
next Given commands.Commit = Some Outside
next Given commands.Abort = Some Outside
next place command = None

-- what the command does there
pub record Goes (f : Facts) (q : Place) (s : Stance) (by : By) (c : Command) (reply : Reply) (es : List Event) : Type 0 where
  pub does : AreOf c es
  pub verdict : is_verdict reply ≡ is_told_verdict c
  pub then : At q (after s by.command c reply (given es))
  pub settled : pending_after f.recs s None c reply ≡ None

-- ---- each command

begins : (f : Facts) (by : By) (reply : Reply) (es : List Event) → IsWide f → IsTold f (standing [] []) by commands.Begin reply es → Goes f Begun (standing [] []) by commands.Begin reply es
begins f by replies.Done es w t = record { does = t.has; verdict = refl; then = refl; settled = refl }
begins f by reply es w t = absurd (ok_reply f t.round by (standing [] []) None commands.Begin reply w tt t.standing t.fine t.lawful)

first_write : (f : Facts) (by : By) (reply : Reply) (es : List Event) → IsWide f → IsTold f (standing (None ∷ []) []) by commands.Write reply es → Goes f Given (standing (None ∷ []) []) by commands.Write reply es
first_write f by (replies.Wrote warn []) es w t = absurd (let n : 0 ≡ 1 = t.has.1 in cc)
first_write f by (replies.Wrote warn (id ∷ [])) es w t = record {
  does = (by, None, id, t.has.0);
  verdict = refl;
  then = (id, ap (λ es. after (standing (None ∷ []) []) by.command commands.Write (replies.Wrote warn (id ∷ [])) (given es)) t.has.0);
  settled = refl;
}
first_write f by (replies.Wrote warn (id ∷ more ∷ ids)) es w t = absurd (let n : length (id ∷ more ∷ ids) ≡ 1 = t.has.1 in cc)
first_write f by reply es w t = absurd (ok_reply f t.round by (standing (None ∷ []) []) None commands.Write reply w tt t.standing t.fine t.lawful)

saves : (f : Facts) (by : By) (top : ℕ) (reply : Reply) (es : List Event) → IsWide f → IsTold f (standing (Some top ∷ []) []) by commands.Save reply es → Goes f Saved (standing (Some top ∷ []) []) by commands.Save reply es
saves f by top replies.Done es w t = record { does = t.has; verdict = refl; then = (top, refl); settled = refl }
saves f by top reply es w t = absurd (ok_reply f t.round by (standing (Some top ∷ []) []) None commands.Save reply w tt t.standing t.fine t.lawful)

second_write : (f : Facts) (by : By) (top : ℕ) (reply : Reply) (es : List Event) → IsWide f → IsTold f (standing (Some top ∷ None ∷ []) []) by commands.Write reply es → Goes f SavedGiven (standing (Some top ∷ None ∷ []) []) by commands.Write reply es
second_write f by top (replies.Wrote warn []) es w t = absurd (let n : 0 ≡ 1 = t.has.1 in cc)
second_write f by top (replies.Wrote warn (id ∷ [])) es w t = record {
  does = (by, Some top, id, t.has.0);
  verdict = refl;
  then = (top, id, ap (λ es. after (standing (Some top ∷ None ∷ []) []) by.command commands.Write (replies.Wrote warn (id ∷ [])) (given es)) t.has.0);
  settled = refl;
}
second_write f by top (replies.Wrote warn (id ∷ more ∷ ids)) es w t = absurd (let n : length (id ∷ more ∷ ids) ≡ 1 = t.has.1 in cc)
second_write f by top reply es w t = absurd (ok_reply f t.round by (standing (Some top ∷ None ∷ []) []) None commands.Write reply w tt t.standing t.fine t.lawful)

undoes : (f : Facts) (by : By) (top id : ℕ) (reply : Reply) (es : List Event) → IsWide f → IsTold f (standing (Some top ∷ Some id ∷ []) []) by commands.Undo reply es → Goes f Given (standing (Some top ∷ Some id ∷ []) []) by commands.Undo reply es
undoes f by top id replies.Done es w t = record { does = (by, id, t.has); verdict = refl; then = (top, refl); settled = refl }
undoes f by top id reply es w t = absurd (ok_reply f t.round by (standing (Some top ∷ Some id ∷ []) []) None commands.Undo reply w tt t.standing t.fine t.lawful)

releases : (f : Facts) (by : By) (top id : ℕ) (reply : Reply) (es : List Event) → IsWide f → IsTold f (standing (Some top ∷ Some id ∷ []) []) by commands.Release reply es → Goes f Given (standing (Some top ∷ Some id ∷ []) []) by commands.Release reply es
releases f by top id replies.Done es w t = record { does = t.has; verdict = refl; then = (top, refl); settled = refl }
releases f by top id reply es w t = absurd (ok_reply f t.round by (standing (Some top ∷ Some id ∷ []) []) None commands.Release reply w tt t.standing t.fine t.lawful)

snaps : (f : Facts) (by : By) (top : ℕ) (name : List ℕ) (reply : Reply) (es : List Event) → IsWide f → name ≡ snapshot → IsTold f (standing (Some top ∷ []) []) by (commands.Snap name) reply es → Goes f Looking (standing (Some top ∷ []) []) by (commands.Snap name) reply es
snaps f by top name (replies.Snapped lists) es w own t = record {
  does = (by, t.has);
  verdict = refl;
  then = (top, by.command, ap (λ name. standing (Some top ∷ []) ((name, by.command) ∷ [])) own);
  settled = refl;
}
snaps f by top name reply es w own t = absurd (ok_reply f t.round by (standing (Some top ∷ []) []) None (commands.Snap name) reply w own t.standing t.fine t.lawful)

commits : (f : Facts) (by : By) (top : ℕ) (reply : Reply) (es : List Event) → IsWide f → IsTold f (standing (Some top ∷ []) []) by commands.Commit reply es → Goes f Outside (standing (Some top ∷ []) []) by commands.Commit reply es
commits f by top replies.Done es w t = record { does = (by, top, t.has); verdict = refl; then = refl; settled = refl }
commits f by top reply es w t = absurd (ok_reply f t.round by (standing (Some top ∷ []) []) None commands.Commit reply w tt t.standing t.fine t.lawful)

aborts : (f : Facts) (by : By) (top : ℕ) (reply : Reply) (es : List Event) → IsWide f → IsTold f (standing (Some top ∷ []) []) by commands.Abort reply es → Goes f Outside (standing (Some top ∷ []) []) by commands.Abort reply es
aborts f by top replies.Done es w t = record { does = (by, top, t.has); verdict = refl; then = refl; settled = refl }
aborts f by top reply es w t = absurd (ok_reply f t.round by (standing (Some top ∷ []) []) None commands.Abort reply w tt t.standing t.fine t.lawful)

sees : (f : Facts) (by : By) (top number : ℕ) (name : List ℕ) (x : Xid) (reply : Reply) (es : List Event) → IsWide f → IsDrawn (commands.See name x) → IsTold f (standing (Some top ∷ []) ((snapshot, number) ∷ [])) by (commands.See name x) reply es → Goes f Looking (standing (Some top ∷ []) ((snapshot, number) ∷ [])) by (commands.See name x) reply es
sees f by top number name x (replies.Seen visible) es w d t = record { does = t.has; verdict = refl; then = (top, number, refl); settled = refl }
sees f by top number name x reply es w d t =
    let there = standing (Some top ∷ []) ((snapshot, number) ∷ []) in
    absurd (ok_reply f t.round by there None (commands.See name x) reply w d (t.standing ∙ ap (λ name. no_snapshot name there) d.0) t.fine t.lawful)

drops : (f : Facts) (by : By) (top number : ℕ) (name : List ℕ) (reply : Reply) (es : List Event) → IsWide f → name ≡ snapshot → IsTold f (standing (Some top ∷ []) ((snapshot, number) ∷ [])) by (commands.DropSnap name) reply es → Goes f Given (standing (Some top ∷ []) ((snapshot, number) ∷ [])) by (commands.DropSnap name) reply es
drops f by top number name replies.Done es w own t = record {
  does = (by, t.has);
  verdict = refl;
  then = (top, ap (λ name. standing (Some top ∷ []) (without_snap name ((snapshot, number) ∷ []))) own);
  settled = refl;
}
drops f by top number name reply es w own t =
    let there = standing (Some top ∷ []) ((snapshot, number) ∷ []) in
    absurd (ok_reply f t.round by there None (commands.DropSnap name) reply w own (t.standing ∙ ap (λ name. no_snapshot name there) own) t.fine t.lawful)

-- ---- any command at any place

moved : (f : Facts) (p q : Place) (s there : Stance) (by : By) (c : Command) (reply : Reply) (es : List Event) → s ≡ there → Some p ≡ Some q → IsTold f s by c reply es → (IsTold f there by c reply es → Goes f p there by c reply es) → Goes f q s by c reply es
moved f p q s there by c reply es a e t g =
    let same : p ≡ q = cc in
    subst (λ s. Goes f q s by c reply es) (sym a) (subst (λ q. Goes f q there by c reply es) same (g (subst (λ s. IsTold f s by c reply es) a t)))

pub goes : (f : Facts) (p q : Place) (s : Stance) (by : By) (c : Command) (reply : Reply) (es : List Event) → IsWide f → IsDrawn c → next p c ≡ Some q → At p s → IsTold f s by c reply es → Goes f q s by c reply es
goes f Outside q s by commands.Begin reply es w d e a t = moved f Begun q s (standing [] []) by commands.Begin reply es a e t (begins f by reply es w)
goes f Begun q s by commands.Write reply es w d e a t = moved f Given q s (standing (None ∷ []) []) by commands.Write reply es a e t (first_write f by reply es w)
goes f Given q s by commands.Save reply es w d e a t = moved f Saved q s (standing (Some a.0 ∷ []) []) by commands.Save reply es a.1 e t (saves f by a.0 reply es w)
goes f Saved q s by commands.Write reply es w d e a t = moved f SavedGiven q s (standing (Some a.0 ∷ None ∷ []) []) by commands.Write reply es a.1 e t (second_write f by a.0 reply es w)
goes f SavedGiven q s by commands.Undo reply es w d e a t = moved f Given q s (standing (Some a.0 ∷ Some a.1 ∷ []) []) by commands.Undo reply es a.2 e t (undoes f by a.0 a.1 reply es w)
goes f SavedGiven q s by commands.Release reply es w d e a t = moved f Given q s (standing (Some a.0 ∷ Some a.1 ∷ []) []) by commands.Release reply es a.2 e t (releases f by a.0 a.1 reply es w)
goes f Given q s by (commands.Snap name) reply es w d e a t = moved f Looking q s (standing (Some a.0 ∷ []) []) by (commands.Snap name) reply es a.1 e t (snaps f by a.0 name reply es w d)
goes f Looking q s by (commands.See name x) reply es w d e a t = moved f Looking q s (standing (Some a.0 ∷ []) ((snapshot, a.1) ∷ [])) by (commands.See name x) reply es a.2 e t (sees f by a.0 a.1 name x reply es w d)
goes f Looking q s by (commands.DropSnap name) reply es w d e a t = moved f Given q s (standing (Some a.0 ∷ []) ((snapshot, a.1) ∷ [])) by (commands.DropSnap name) reply es a.2 e t (drops f by a.0 a.1 name reply es w d)
goes f Given q s by commands.Commit reply es w d e a t = moved f Outside q s (standing (Some a.0 ∷ []) []) by commands.Commit reply es a.1 e t (commits f by a.0 reply es w)
goes f Given q s by commands.Abort reply es w d e a t = moved f Outside q s (standing (Some a.0 ∷ []) []) by commands.Abort reply es a.1 e t (aborts f by a.0 reply es w)
goes f p q s by c reply es w d e a t = absurd cc
