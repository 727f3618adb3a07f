-- The same of commands, and of what stands between rounds.
use Rattle.std.proofs.Common.{◌≡◌, ℕ, ◌+◌, ◌≤◌, ◌<◌, ◌^◌, ◌||◌, List, ◌∷◌, ◌++◌, true, false, Option, Some, None, refl, sym, ap, ◌∙◌, subst, arith, length, drop, get_or, codes}
use Rattle.std.specs.Fmt.{decimal}
use Rattle.std.proofs.lemmas.Bool.{false≢true}
use Rattle.tx_model.specs.declared.report.Line.{Line}
use Rattle.tx_model.specs.declared.report.Step.{Step}
use Rattle.tx_model.specs.declared.report.Step.TheVariants as steps
use Rattle.tx_model.specs.declared.reply.Reply.{Reply}
use Rattle.tx_model.specs.declared.reply.Reply.TheVariants as replies
use Rattle.report_text.specs.Words.{name_at}
use Rattle.report_text.specs.CommandText.{command_word, command_rest}
use Rattle.report_text.specs.ReplyText.{reply_words}
use Rattle.report_text.specs.ReportText.{command_line, round_line, step_text}
use Rattle.report_words.specs.Fits.{FitsCheckpointReply, FitsLine}
use Rattle.report_lines.specs.Fits.{FitsStep}
use Rattle.report_words.specs.Texts.{IsLineOf}
use Rattle.report_lines.proofs.AgainLines.{said_are_words}
use Rattle.report_lines.proofs.Apart.{some_same}
use Rattle.report_words.specs.declared.unread.Unread.{Unread}
use Rattle.report_words.specs.declared.unread.Unread.TheVariants as unreads
use Rattle.report_words.proofs.Again.{line_again}
use Rattle.report_read.specs.Item.{Item}
use Rattle.report_read.specs.Item as items
use Rattle.report_read.specs.Grammar.{AreNamed, Follows, Rule, after, begins_step, history_line, is_round, item_line, may_speak, note, session_of, steps_told}
use Rattle.report_read.specs.Taking.{AreFew, IsNoStep, IsRefused, IsTaken, note_some, pending_name, said_name}
use Rattle.report_read.specs.declared.told.Stage.{Stage}
use Rattle.report_read.specs.declared.told.Stage.TheVariants as stages
use Rattle.report_read.specs.declared.told.Told.{Told}
use Rattle.report_read.proofs.LineWords.{item_words, line_words, step_again, step_words}
use Rattle.report_read.proofs.Same.{command_said, command_same, history_unsaid, name_somewhere, round_unsaid, stage_group, stands_in, step_named, step_pending, step_unsaid}
use Rattle.report_read.proofs.Standing.{NoneStands, words_in}
use Rattle.report_read.proofs.Sound.{are_few}

abbrev Names : Type 0
Names = List (List ℕ)

pub steps_group : (s : Stage) → (begins_step s || is_round s) ≡ true → stage_group s ≡ 2
steps_group stages.Steps e = refl
steps_group stages.Silent e = refl
steps_group stages.Spoken e = refl
steps_group _ e = absurd (false≢true e)

unsaid : (t : Told) (x : Item) (names : Names) (bytes w : List ℕ) → 1 ≤ length bytes → Rule t x names → drop 1 bytes ≡ item_line names x → said_name (words_in bytes) ≡ Some w → said_name (item_words names x) ≡ None → ⊥
unsaid t x names bytes w l r e n q = let h : Some w ≡ None = sym n ∙ ap said_name (line_words t x names bytes l r e) ∙ q in absurd cc

-- ---- commands

pub none_said : (t : Told) (bytes w : List ℕ) → (begins_step t.stage || is_round t.stage) ≡ true → 1 ≤ length bytes → said_name (words_in bytes) ≡ Some w → ((c : Line) (m : Told) → Follows t (items.command c) m → m.names ≡ note t.names w → drop 1 bytes ≡ command_line m.names c → ⊥) → NoneStands t (drop 1 bytes)
none_said t bytes w s l n d (items.command c) m f e =
    d c m f (f.rule.0.noted ∙ ap (note t.names) (some_same _ _ (sym (command_said m.names c f.rule.1.by.command) ∙ sym (ap said_name (line_words t (items.command c) m.names bytes l f.rule e)) ∙ n))) e
none_said t bytes w s l n d (items.round k) m f e = unsaid t (items.round k) m.names bytes w l f.rule e n (round_unsaid m.names k f.rule.2)
none_said t bytes w s l n d (items.step v) m f e = unsaid t (items.step v) m.names bytes w l f.rule e n (step_unsaid m.names v f.rule.2)
none_said t bytes w s l n d items.history m f e = unsaid t items.history m.names bytes w l f.rule e n (history_unsaid m.names)
none_said t bytes w s l n d x m f e = let g = stands_in x t.stage f.stands ∙ steps_group t.stage s in absurd (omega arith)

-- no round has begun
pub command_outside : (t : Told) (bytes w : List ℕ) → (begins_step t.stage || is_round t.stage) ≡ true → 1 ≤ length bytes → said_name (words_in bytes) ≡ Some w → is_round t.stage ≡ false → NoneStands t (drop 1 bytes)
command_outside t bytes w s l n o = none_said t bytes w s l n (λ c m f q e. false≢true (sym o ∙ f.stands))

pub command_cannot : (t : Told) (bytes w : List ℕ) → (begins_step t.stage || is_round t.stage) ≡ true → 1 ≤ length bytes → said_name (words_in bytes) ≡ Some w → (AreFew (note t.names w) → ⊥) → NoneStands t (drop 1 bytes)
command_cannot t bytes w s l n c = none_said t bytes w s l n (λ v m f q e. c (subst (λ (k : Names). AreFew k) q (record { are = f.rule.0.are; few = f.rule.0.few })))

pub command_unread : (t : Told) (bytes w : List ℕ) (noted : Names) → (begins_step t.stage || is_round t.stage) ≡ true → 1 ≤ length bytes → said_name (words_in bytes) ≡ Some w → noted ≡ note t.names w → ((c : Line) → IsLineOf (FitsLine noted) (command_line noted) (drop 1 bytes) c → ⊥) → NoneStands t (drop 1 bytes)
command_unread t bytes w noted s l n g d = none_said t bytes w s l n (λ c m f q e.
    let same : m.names ≡ noted = q ∙ sym g in
    d c (record { fit = subst (λ (k : Names). FitsLine k c) same f.rule.1; text = e ∙ ap (λ k. command_line k c) same }))

pub command_wrong : (t : Told) (bytes w : List ℕ) (noted : Names) (c : Line) → (begins_step t.stage || is_round t.stage) ≡ true → 1 ≤ length bytes → said_name (words_in bytes) ≡ Some w → noted ≡ note t.names w → AreFew noted → IsLineOf (FitsLine noted) (command_line noted) (drop 1 bytes) c → (c.by.command ≡ get_or t.counts c.by.session 0 + 1 → may_speak t.speaker t.spoken c.by.session ≡ true → ⊥) → NoneStands t (drop 1 bytes)
command_wrong t bytes w noted c s l n g few i bad = none_said t bytes w s l n (λ v m f q e.
    let same : m.names ≡ noted = q ∙ sym g in
    let one : v ≡ c = command_same noted v c few.are (subst (λ (k : Names). FitsLine k v) same f.rule.1) i.fit (sym (e ∙ ap (λ k. command_line k v) same) ∙ i.text) in
    bad (ap (λ (k : Line). k.by.command) (sym one) ∙ f.rule.2 ∙ ap (λ (k : Line). get_or t.counts k.by.session 0 + 1) one) (ap (λ (k : Line). may_speak t.speaker t.spoken k.by.session) (sym one) ∙ f.rule.3))

pub command_taken : (t : Told) (bytes w : List ℕ) (noted : Names) (c : Line) (m : Told) → is_round t.stage ≡ true → 1 ≤ length bytes → said_name (words_in bytes) ≡ Some w → noted ≡ note t.names w → AreFew noted → IsLineOf (FitsLine noted) (command_line noted) (drop 1 bytes) c → c.by.command ≡ get_or t.counts c.by.session 0 + 1 → may_speak t.speaker t.spoken c.by.session ≡ true → m ≡ record (after t (items.command c)) { names = noted } → IsTaken t m (drop 1 bytes)
command_taken t bytes w noted c m s l n q f i number turn g =
    let ws : words_in bytes ≡ item_words noted (items.command c) = line_again bytes (name_at noted c.by.session) (decimal c.by.command ∷ command_word c.command ∷ (command_rest c.command ++ codes "->" ∷ reply_words noted c.reply)) l (said_are_words noted c f.are i.fit) i.text in
    let named : w ≡ name_at noted c.by.session = some_same _ _ (sym n ∙ ap said_name ws ∙ command_said noted c i.fit.by.command) in
    let names : m.names ≡ noted = ap (λ (k : Told). k.names) g in
    record {
      item = items.command c;
      follows = record {
        stands = s;
        rule = subst (λ (k : Names). Rule t (items.command c) k) (sym names) (record { within = i.fit.by.session; noted = q ∙ ap (note t.names) named; few = f.few; are = f.are }, i.fit, number, turn);
        told = g ∙ ap (λ k. record (after t (items.command c)) { names = k }) (sym names);
      };
      text = i.text ∙ ap (λ k. command_line k c) (sym names);
    }

-- ---- between rounds

pub none_unsaid : (t : Told) (bytes : List ℕ) → (begins_step t.stage || is_round t.stage) ≡ true → 1 ≤ length bytes → said_name (words_in bytes) ≡ None → (t.round + 1 < 2 ^ 64 → begins_step t.stage ≡ true → drop 1 bytes ≡ round_line (t.round + 1) → ⊥) → (begins_step t.stage ≡ true → drop 1 bytes ≡ history_line → ⊥) → ((v : Step) (m : Told) → Follows t (items.step v) m → drop 1 bytes ≡ step_text m.names v → ⊥) → NoneStands t (drop 1 bytes)
none_unsaid t bytes s l n r h d (items.command c) m f e =
    let q : Some (name_at m.names c.by.session) ≡ None = sym (command_said m.names c f.rule.1.by.command) ∙ sym (ap said_name (line_words t (items.command c) m.names bytes l f.rule e)) ∙ n in
    absurd cc
none_unsaid t bytes s l n r h d (items.round k) m f e = let i = f.rule.1 in let j = f.rule.2 in r (omega arith) f.stands (e ∙ ap round_line f.rule.1)
none_unsaid t bytes s l n r h d (items.step v) m f e = d v m f e
none_unsaid t bytes s l n r h d items.history m f e = h f.stands e
none_unsaid t bytes s l n r h d x m f e = let g = stands_in x t.stage f.stands ∙ steps_group t.stage s in absurd (omega arith)

-- a round has begun, and nobody spoke
pub none_silent : (t : Told) (bytes : List ℕ) → (begins_step t.stage || is_round t.stage) ≡ true → 1 ≤ length bytes → said_name (words_in bytes) ≡ None → begins_step t.stage ≡ false → NoneStands t (drop 1 bytes)
none_silent t bytes s l n o = none_unsaid t bytes s l n (λ a b e. false≢true (sym o ∙ b)) (λ b e. false≢true (sym o ∙ b)) (λ v m f e. false≢true (sym o ∙ f.stands))

step_noted : (t : Told) (bytes : List ℕ) → 1 ≤ length bytes → (v : Step) (m : Told) → Follows t (items.step v) m → drop 1 bytes ≡ step_text m.names v → m.names ≡ note_some t.names (pending_name (words_in bytes))
step_noted t bytes l v m f e = step_named t v m.names f.rule ∙ ap (λ ws. note_some t.names (pending_name ws)) (sym (line_words t (items.step v) m.names bytes l f.rule e))

pub step_unread : (t : Told) (bytes : List ℕ) (noted : Names) → 1 ≤ length bytes → noted ≡ note_some t.names (pending_name (words_in bytes)) → ((v : Step) → IsLineOf (FitsStep noted) (step_text noted) (drop 1 bytes) v → ⊥) → (v : Step) (m : Told) → Follows t (items.step v) m → drop 1 bytes ≡ step_text m.names v → ⊥
step_unread t bytes noted l g d v m f e =
    let same : m.names ≡ noted = step_noted t bytes l v m f e ∙ sym g in
    d v (record { fit = subst (λ (k : Names). FitsStep k v) same f.rule.2; text = e ∙ ap (λ k. step_text k v) same })

named_back : (old names : Names) (o : Option ℕ) → ((s : ℕ) → o ≡ Some s → s < length names) → names ≡ note_some old (name_somewhere names o) → AreFew names → AreNamed old o names
unfolding name_somewhere
named_back old names None w e f = e
named_back old names (Some s) w e f = record { within = w s refl; noted = e; few = f.few; are = f.are }

reply_within : (names : Names) (r : Reply) (s : ℕ) → FitsCheckpointReply names r → session_of (steps.Checkpoint r) ≡ Some s → s < length names
reply_within names (replies.Pending session refusal) s f e = subst (λ k. k < length names) (some_same session s e) f.0
reply_within names replies.Done s f e = absurd cc
reply_within names (replies.Refused refusal) s f e = absurd cc
reply_within names _ s f e = absurd f

session_within : (names : Names) (v : Step) (s : ℕ) → FitsStep names v → session_of v ≡ Some s → s < length names
session_within names (steps.Round number lines) s f e = absurd f
session_within names (steps.Checkpoint reply) s f e = reply_within names reply s f e
session_within names (steps.Dump what from size reply) s f e = absurd cc

pub step_taken : (t : Told) (bytes : List ℕ) (noted : Names) (v : Step) (m : Told) → begins_step t.stage ≡ true → 1 ≤ length bytes → noted ≡ note_some t.names (pending_name (words_in bytes)) → AreFew noted → IsLineOf (FitsStep noted) (step_text noted) (drop 1 bytes) v → m ≡ record (after t (items.step v)) { names = noted } → IsTaken t m (drop 1 bytes)
step_taken t bytes noted v m s l q f i g =
    let ws : words_in bytes ≡ step_words noted v = step_again noted v bytes l f.are i.fit i.text in
    let named : AreNamed t.names (session_of v) noted = named_back t.names noted (session_of v) (λ k e. session_within noted v k i.fit e) (q ∙ ap (note_some t.names) (ap pending_name ws ∙ step_pending noted v i.fit)) f in
    let names : m.names ≡ noted = ap (λ (k : Told). k.names) g in
    record {
      item = items.step v;
      follows = record {
        stands = s;
        rule = subst (λ (k : Names). Rule t (items.step v) k) (sym names) (named, f.are, i.fit);
        told = g ∙ ap (λ k. record (after t (items.step v)) { names = k }) (sym names);
      };
      text = i.text ∙ ap (λ k. step_text k v) (sym names);
    }

pub step_unnoted : (t : Told) (bytes : List ℕ) → 1 ≤ length bytes → AreFew t.names → (AreFew (note_some t.names (pending_name (words_in bytes))) → ⊥) → (v : Step) (m : Told) → Follows t (items.step v) m → drop 1 bytes ≡ step_text m.names v → ⊥
step_unnoted t bytes l few c v m f e = c (subst (λ (k : Names). AreFew k) (step_noted t bytes l v m f e) (are_few t.names (session_of v) m.names f.rule.0 few))

pub no_step : (u : Unread) (t : Told) (line : List ℕ) → (u ≡ unreads.Form → (v : Step) (m : Told) → Follows t (items.step v) m → line ≡ step_text m.names v → ⊥) → IsNoStep u t line
no_step unreads.Form t line f = f refl
no_step unreads.Memory t line f = tt

-- no step stands there, and nothing else that no session says
pub nothing_stands : (u : Unread) (t : Told) (bytes : List ℕ) → (begins_step t.stage || is_round t.stage) ≡ true → 1 ≤ length bytes → said_name (words_in bytes) ≡ None → (t.round + 1 < 2 ^ 64 → drop 1 bytes ≡ round_line (t.round + 1) → ⊥) → (drop 1 bytes ≡ history_line → ⊥) → IsNoStep u t (drop 1 bytes) → IsRefused u t (drop 1 bytes)
nothing_stands unreads.Form t bytes s l n r h d = none_unsaid t bytes s l n (λ a b e. r a e) (λ b e. h e) d
nothing_stands unreads.Memory t bytes s l n r h d = tt

-- names are no steps
pub steps_names : (s : Stage) (t : Told) (names : Names) → steps_told s (record t { names = names }) ≡ steps_told s t
steps_names stages.Opening t names = refl
steps_names _ t names = refl
