-- The commonest lines are those that a report prints.
use Rattle.std.proofs.Common.{◌≡◌, ℕ, List, [], ◌∷◌, ◌++◌, Bool, true, false, Option, Some, None, IfSome, refl, sym, ap, ◌∙◌, subst, append_assoc, codes, ◌<◌, ◌^◌}
use Rattle.std.specs.Fmt.{decimal}
use Rattle.tx_events.specs.Names.{IsName}
use Rattle.tx_events.specs.declared.event.By.{By}
use Rattle.tx_events.specs.declared.event.Event.{Event}
use Rattle.tx_events.specs.declared.event.Event.TheVariants as events
use Rattle.tx_model.specs.declared.command.Command.{Command}
use Rattle.tx_model.specs.declared.command.Command.TheVariants as commands
use Rattle.tx_model.specs.declared.reply.Reply.{Reply}
use Rattle.tx_model.specs.declared.reply.Reply.TheVariants as replies
use Rattle.tx_model.specs.declared.report.Line.{Line}
use Rattle.report_text.specs.Words.{line_text, more, name_at}
use Rattle.report_text.specs.CommandText.{command_word, command_words}
use Rattle.report_text.specs.EventText.{event_word}
use Rattle.report_text.specs.ReplyText.{reply_words}
use Rattle.report_text.specs.ReportText.{command_line}
use Rattle.report_words.specs.Fits.{FitsBy, FitsId, FitsCommand, FitsEvent, FitsLine}
use Rattle.report_words.specs.Replies.{kind_of}
use Rattle.report_words.specs.declared.reply.Kind.TheVariants as kinds
use Rattle.report_words.specs.Texts.{IsLineOf, event_line}
use Rattle.report_usual.specs.Usual.{IsExchange, by_front, seen_end}

abbrev Names : Type 0
Names = List (List ℕ)

-- one word more in front of a line's end
pub word_before : (w : List ℕ) (ws : List (List ℕ)) (r : List ℕ) → r ≡ more ws ++ 10 ∷ [] → 32 ∷ (w ++ r) ≡ more (w ∷ ws) ++ 10 ∷ []
unfolding more
word_before w ws r e = ap (λ t. 32 ∷ (w ++ t)) e ∙ ap (λ t. 32 ∷ t) (sym (append_assoc w (more ws) (10 ∷ [])))

pub last_word : (w : List ℕ) → 32 ∷ (w ++ 10 ∷ []) ≡ more (w ∷ []) ++ 10 ∷ []
unfolding more
last_word w = word_before w [] (10 ∷ []) refl

pub line_of : (w : List ℕ) (ws : List (List ℕ)) → w ++ (more ws ++ 10 ∷ []) ≡ line_text (w ∷ ws)
unfolding line_text
line_of w ws = sym (append_assoc w (more ws) (10 ∷ []))

-- ---- commands

pub is_done : (rest end : List ℕ) (c : Command) → rest ≡ end → end ≡ more (command_words c ++ codes "->" ∷ codes "ok" ∷ []) ++ 10 ∷ [] → kind_of c ≡ kinds.Plain → FitsCommand c → IsExchange rest c replies.Done
is_done rest end c e f k g = record { text = λ names. e ∙ f; command = g; reply = k }

pub is_wrote_one : (rest behind ids : List ℕ) (n id : ℕ) → rest ≡ decimal n ++ behind → id ≡ n → FitsId id → behind ≡ 10 ∷ [] → ids ≡ id ∷ [] → IsExchange (codes " write -> ok " ++ rest) commands.Write (replies.Wrote false ids)
unfolding more command_word
is_wrote_one rest behind ids n id e s f g q = subst (λ (is : List ℕ). IsExchange (codes " write -> ok " ++ rest) commands.Write (replies.Wrote false is)) (sym q) (record {
  text = λ names. ap (λ t. codes " write -> ok " ++ t) (e ∙ ap (λ k. decimal k ++ behind) (sym s) ∙ ap (λ t. decimal id ++ t) g) ∙ ap (λ t. codes " write -> ok" ++ t) (last_word (decimal id));
  command = tt;
  reply = (refl, (f, tt));
})

pub is_wrote_two : (rest behind far end ids : List ℕ) (n id m second : ℕ) → rest ≡ decimal n ++ behind → id ≡ n → FitsId id → behind ≡ 32 ∷ far → far ≡ decimal m ++ end → second ≡ m → FitsId second → end ≡ 10 ∷ [] → ids ≡ id ∷ second ∷ [] → IsExchange (codes " write -> ok " ++ rest) commands.Write (replies.Wrote false ids)
unfolding more command_word
is_wrote_two rest behind far end ids n id m second e s f g h i j k q = subst (λ (is : List ℕ). IsExchange (codes " write -> ok " ++ rest) commands.Write (replies.Wrote false is)) (sym q) (record {
  text = λ names.
      ap (λ t. codes " write -> ok " ++ t) (e ∙ ap (λ v. decimal v ++ behind) (sym s) ∙ ap (λ t. decimal id ++ t) (g ∙ ap (λ t. 32 ∷ t) (h ∙ ap (λ v. decimal v ++ end) (sym i) ∙ ap (λ t. decimal second ++ t) k)))
      ∙ ap (λ t. codes " write -> ok" ++ t) (word_before (decimal id) (decimal second ∷ []) (32 ∷ (decimal second ++ 10 ∷ [])) (last_word (decimal second)));
  command = tt;
  reply = (refl, (f, (j, tt)));
})

look_end : (visible : Bool) (names : Names) → seen_end visible ≡ more (codes "->" ∷ reply_words names (replies.Seen visible)) ++ 10 ∷ []
unfolding more
look_end true names = refl
look_end false names = refl

pub is_look : (rest behind end name : List ℕ) (n : ℕ) (visible : Bool) → rest ≡ name ++ 32 ∷ behind → IsName name → behind ≡ decimal n ++ end → n < 2 ^ 32 → end ≡ seen_end visible → IsExchange (codes " see " ++ rest) (commands.See name (record { number = n })) (replies.Seen visible)
unfolding more command_word
is_look rest behind end name n visible e f g small h = record {
  text = λ names.
      ap (λ t. codes " see " ++ t) (e ∙ ap (λ t. name ++ 32 ∷ t) (g ∙ ap (λ t. decimal n ++ t) h))
      ∙ ap (λ t. codes " see" ++ t) (word_before name (decimal n ∷ codes "->" ∷ reply_words names (replies.Seen visible)) _ (word_before (decimal n) (codes "->" ∷ reply_words names (replies.Seen visible)) _ (look_end visible names)));
  command = (f, small);
  reply = refl;
}

pub is_dropped : (rest behind name : List ℕ) → rest ≡ name ++ 32 ∷ behind → IsName name → behind ≡ codes "-> ok" ++ 10 ∷ [] → IsExchange (codes " drop " ++ rest) (commands.DropSnap name) replies.Done
unfolding more command_word
is_dropped rest behind name e f g = record {
  text = λ names. ap (λ t. codes " drop " ++ t) (e ∙ ap (λ t. name ++ 32 ∷ t) g) ∙ ap (λ t. codes " drop" ++ t) (word_before name (codes "->" ∷ codes "ok" ∷ []) (codes " -> ok" ++ 10 ∷ []) refl);
  command = f;
  reply = refl;
}

-- what is found behind a piece is found
pub exchange_behind : (r : Option (Command × Reply)) (rest piece tail : List ℕ) → rest ≡ piece ++ tail → IfSome r (λ x. IsExchange (piece ++ tail) x.0 x.1) → IfSome r (λ x. IsExchange rest x.0 x.1)
exchange_behind r rest piece tail e h = subst (λ t. IfSome r (λ x. IsExchange t x.0 x.1)) (sym e) h

pub is_line : (names : Names) (line rest : List ℕ) (by : By) (c : Command) (r : Reply) → line ≡ by_front names by rest → FitsBy names by → IsExchange rest c r → IsLineOf (FitsLine names) (command_line names) line (record { by = by; command = c; reply = r })
is_line names line rest by c r e f x = record {
  fit = record { by = f; command = x.command; reply = x.reply };
  text = e ∙ ap (λ t. name_at names by.session ++ t) (word_before (decimal by.command) (command_words c ++ codes "->" ∷ reply_words names r) rest (x.text names)) ∙ line_of (name_at names by.session) (decimal by.command ∷ (command_words c ++ codes "->" ∷ reply_words names r));
}

-- ---- events

pub event_text : (names : Names) (w rest last : List ℕ) (by : By) (ws : List (List ℕ)) → rest ≡ by_front names by last → last ≡ more ws ++ 10 ∷ [] → w ++ 32 ∷ rest ≡ line_text (w ∷ name_at names by.session ∷ decimal by.command ∷ ws)
event_text names w rest last by ws e f =
    ap (λ t. w ++ 32 ∷ t) e
    ∙ ap (λ t. w ++ t) (word_before (name_at names by.session) (decimal by.command ∷ ws) _ (word_before (decimal by.command) ws last f))
    ∙ line_of w (name_at names by.session ∷ decimal by.command ∷ ws)

pub is_given : (names : Names) (rest : List ℕ) (by : By) (id : ℕ) → rest ≡ by_front names by (32 ∷ decimal id ++ 10 ∷ []) → FitsBy names by → FitsId id → IsLineOf (FitsEvent names) (event_line names) (codes "id " ++ rest) (events.Id by id)
unfolding event_word
is_given names rest by id e f g = record { fit = (f, g); text = event_text names (codes "id") rest _ by (decimal id ∷ []) e (last_word (decimal id)) }

pub is_committed : (names : Names) (rest : List ℕ) (by : By) (id : ℕ) → rest ≡ by_front names by (32 ∷ decimal id ++ 10 ∷ []) → FitsBy names by → FitsId id → IsLineOf (FitsEvent names) (event_line names) (codes "commit " ++ rest) (events.Commit by id)
unfolding event_word
is_committed names rest by id e f g = record { fit = (f, g); text = event_text names (codes "commit") rest _ by (decimal id ∷ []) e (last_word (decimal id)) }

pub is_taken : (names : Names) (rest : List ℕ) (by : By) (name : List ℕ) → rest ≡ by_front names by (32 ∷ name ++ 10 ∷ []) → FitsBy names by → IsName name → IsLineOf (FitsEvent names) (event_line names) (codes "snap " ++ rest) (events.Snap name by)
unfolding event_word
is_taken names rest by name e f g = record { fit = (f, g); text = event_text names (codes "snap") rest _ by (name ∷ []) e (last_word name) }

pub is_snap_drop : (names : Names) (rest : List ℕ) (by : By) (name : List ℕ) → rest ≡ by_front names by (32 ∷ name ++ 10 ∷ []) → FitsBy names by → IsName name → IsLineOf (FitsEvent names) (event_line names) (codes "drop " ++ rest) (events.SnapDrop name by)
unfolding event_word
is_snap_drop names rest by name e f g = record { fit = (f, g); text = event_text names (codes "drop") rest _ by (name ∷ []) e (last_word name) }

pub is_given_below : (names : Names) (rest behind far end : List ℕ) (by : By) (n parent m id : ℕ) → rest ≡ by_front names by (32 ∷ decimal n ++ behind) → FitsBy names by → parent ≡ n → FitsId parent → behind ≡ 32 ∷ far → far ≡ decimal m ++ end → id ≡ m → FitsId id → end ≡ 10 ∷ [] → IsLineOf (FitsEvent names) (event_line names) (codes "sub " ++ rest) (events.Sub by parent id)
unfolding event_word
is_given_below names rest behind far end by n parent m id e f s g h i j k l = record {
  fit = (f, g, k);
  text = event_text names (codes "sub") rest _ by (decimal parent ∷ decimal id ∷ []) e
      (ap (λ v. 32 ∷ (decimal v ++ behind)) (sym s)
      ∙ word_before (decimal parent) (decimal id ∷ []) behind (h ∙ ap (λ t. 32 ∷ t) (i ∙ ap (λ v. decimal v ++ end) (sym j) ∙ ap (λ t. decimal id ++ t) l) ∙ last_word (decimal id)));
}

pub event_behind : (names : Names) (r : Option Event) (line piece tail : List ℕ) → line ≡ piece ++ tail → IfSome r (λ x. IsLineOf (FitsEvent names) (event_line names) (piece ++ tail) x) → IfSome r (λ x. IsLineOf (FitsEvent names) (event_line names) line x)
event_behind names r line piece tail e h = subst (λ t. IfSome r (λ x. IsLineOf (FitsEvent names) (event_line names) t x)) (sym e) h
