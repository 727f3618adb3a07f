-- The lines of commands that have lists are those that a report prints.
use Rattle.std.proofs.Common.{◌≡◌, ℕ, ◌<◌, ◌≤◌, ◌^◌, List, [], ◌∷◌, ◌++◌, false, Option, Result, IfOk, IfSome, refl, sym, ap, ◌∙◌, subst, append_assoc, append-nil, codes}
use Rattle.std.specs.List.{AllByRecursion}
use Rattle.std.specs.Fmt.{decimal}
use Rattle.tx_events.specs.Names.{IsName}
use Rattle.tx_events.specs.declared.snapshot.SnapData.{SnapData}
use Rattle.tx_model.specs.declared.command.Command.{Command}
use Rattle.tx_model.specs.declared.command.Command.TheVariants as commands
use Rattle.tx_model.specs.declared.command.Pair.{Pair}
use Rattle.tx_model.specs.declared.reply.MemberVerdict.{MemberVerdict}
use Rattle.tx_model.specs.declared.reply.Reply.{Reply}
use Rattle.tx_model.specs.declared.reply.Reply.TheVariants as replies
use Rattle.report_text.specs.Words.{more, numbers_or_dash}
use Rattle.report_text.specs.CommandText.{command_word}
use Rattle.report_text.specs.MemberText.{member_verdict_word, member_verdict_words, pair_word, pair_words}
use Rattle.report_text.specs.ReplyText.{snapshot_words}
use Rattle.report_text.proofs.MoreWords.{then_more}
use Rattle.report_words.specs.Fits.{FitsId, FitsMulti, FitsPair, FitsVerdict}
use Rattle.report_usual.specs.Usual.{AreInFront, AreListed, IsExchange, look_front, snap_front}
use Rattle.report_usual.proofs.Exchanges.{word_before, last_word}

abbrev Words : Type 0
Words = List (List ℕ)

-- words more in front of a line's end
pub words_before : (ws vs : Words) (r : List ℕ) → r ≡ more vs ++ 10 ∷ [] → more ws ++ r ≡ more (ws ++ vs) ++ 10 ∷ []
words_before ws vs r e =
    ap (λ t. more ws ++ t) e ∙ sym (append_assoc (more ws) (more vs) (10 ∷ [])) ∙ ap (λ t. t ++ 10 ∷ []) (then_more [] ws vs)

-- ---- writes

pub is_wrote : (bytes rest end ids given : List ℕ) → bytes ≡ codes " write -> ok" ++ rest → AreListed rest ids end → end ≡ 10 ∷ [] → given ≡ ids → IsExchange bytes commands.Write (replies.Wrote false given)
unfolding more command_word
is_wrote bytes rest end ids given e a g q = subst (λ (is : List ℕ). IsExchange bytes commands.Write (replies.Wrote false is)) (sym q) (record {
  text = λ names. e ∙ ap (λ t. codes " write -> ok" ++ t) (a.text ∙ ap (λ t. more (numbers_or_dash ids) ++ t) g ∙ ap (λ (ws : Words). more ws ++ 10 ∷ []) (sym (append-nil (numbers_or_dash ids))));
  command = tt;
  reply = (refl, a.each);
})

-- ---- snapshots

abbrev ending : Words
ending = codes "overflow" ∷ codes "no" ∷ []

abbrev listed : List ℕ → List ℕ → Words
listed xip subxip = (numbers_or_dash xip ++ codes "sub" ∷ numbers_or_dash subxip) ++ ending

lists_end : (r₁ r₂ r₃ r₄ xip subxip : List ℕ) → AreListed r₁ xip r₂ → r₂ ≡ codes " sub" ++ r₃ → AreListed r₃ subxip r₄ → r₄ ≡ codes " overflow no" ++ 10 ∷ [] → r₁ ≡ more (listed xip subxip) ++ 10 ∷ []
unfolding more
lists_end r₁ r₂ r₃ r₄ xip subxip a e b f =
    let s₄ : r₄ ≡ more ending ++ 10 ∷ [] = f in
    let s₃ : r₃ ≡ more (numbers_or_dash subxip ++ ending) ++ 10 ∷ [] = b.text ∙ words_before (numbers_or_dash subxip) ending r₄ s₄ in
    let s₂ : r₂ ≡ more (codes "sub" ∷ (numbers_or_dash subxip ++ ending)) ++ 10 ∷ [] = e ∙ word_before (codes "sub") (numbers_or_dash subxip ++ ending) r₃ s₃ in
    a.text ∙ words_before (numbers_or_dash xip) (codes "sub" ∷ (numbers_or_dash subxip ++ ending)) r₂ s₂
    ∙ ap (λ (ws : Words). more ws ++ 10 ∷ []) (sym (append_assoc (numbers_or_dash xip) (codes "sub" ∷ numbers_or_dash subxip) ending))

pub snap_front_is : (bytes r₁ r₂ r₃ r₄ name : List ℕ) (from to : ℕ) → bytes ≡ name ++ 32 ∷ r₁ → r₁ ≡ codes "-> ok xmin " ++ (decimal from ++ r₂) → r₂ ≡ codes " xmax " ++ (decimal to ++ r₃) → r₃ ≡ codes " xip" ++ r₄ → bytes ≡ snap_front name from to r₄
snap_front_is bytes r₁ r₂ r₃ r₄ name from to e f g h =
    e ∙ ap (λ t. name ++ 32 ∷ t) (f ∙ ap (λ t. codes "-> ok xmin " ++ (decimal from ++ t)) (g ∙ ap (λ t. codes " xmax " ++ (decimal to ++ t)) h))

abbrev front : List ℕ → ℕ → ℕ → List ℕ → List ℕ
front name xmin xmax rest = codes " snap " ++ snap_front name xmin xmax rest

snap_text : (name rest : List ℕ) (xmin xmax : ℕ) (ws : Words) → rest ≡ more ws ++ 10 ∷ [] → front name xmin xmax rest ≡ more (codes "snap" ∷ name ∷ codes "->" ∷ codes "ok" ∷ codes "xmin" ∷ decimal xmin ∷ codes "xmax" ∷ decimal xmax ∷ codes "xip" ∷ ws) ++ 10 ∷ []
snap_text name rest xmin xmax ws e =
    let w₁ : Words = codes "xip" ∷ ws in
    let w₂ : Words = codes "xmax" ∷ decimal xmax ∷ w₁ in
    let w₃ : Words = codes "xmin" ∷ decimal xmin ∷ w₂ in
    let w₄ : Words = codes "->" ∷ codes "ok" ∷ w₃ in
    let l₁ : List ℕ = codes " xip" ++ rest in
    let l₂ : List ℕ = codes " xmax " ++ (decimal xmax ++ l₁) in
    let l₃ : List ℕ = codes " xmin " ++ (decimal xmin ++ l₂) in
    let l₄ : List ℕ = codes " -> ok" ++ l₃ in
    let e₁ : l₁ ≡ more w₁ ++ 10 ∷ [] = word_before (codes "xip") ws rest e in
    let e₂ : l₂ ≡ more w₂ ++ 10 ∷ [] = word_before (codes "xmax") (decimal xmax ∷ w₁) (32 ∷ (decimal xmax ++ l₁)) (word_before (decimal xmax) w₁ l₁ e₁) in
    let e₃ : l₃ ≡ more w₃ ++ 10 ∷ [] = word_before (codes "xmin") (decimal xmin ∷ w₂) (32 ∷ (decimal xmin ++ l₂)) (word_before (decimal xmin) w₂ l₂ e₂) in
    let e₄ : l₄ ≡ more w₄ ++ 10 ∷ [] = word_before (codes "->") (codes "ok" ∷ w₃) (32 ∷ (codes "ok" ++ l₃)) (word_before (codes "ok") w₃ l₃ e₃) in
    word_before (codes "snap") (name ∷ w₄) (32 ∷ (name ++ l₄)) (word_before name w₄ l₄ e₄)

pub is_snapped : (bytes r₁ r₂ r₃ r₄ name xip subxip : List ℕ) (from to xmin xmax : ℕ) (s : SnapData) → bytes ≡ snap_front name from to r₁ → IsName name → (xmin ≡ from) × FitsId xmin → (xmax ≡ to) × FitsId xmax → AreListed r₁ xip r₂ → r₂ ≡ codes " sub" ++ r₃ → AreListed r₃ subxip r₄ → r₄ ≡ codes " overflow no" ++ 10 ∷ [] → s ≡ record { xmin = xmin; xmax = xmax; xip = xip; subxip = subxip; overflowed = false } → IsExchange (codes " snap " ++ bytes) (commands.Snap name) (replies.Snapped s)
unfolding command_word snapshot_words
is_snapped bytes r₁ r₂ r₃ r₄ name xip subxip from to xmin xmax s e n f g a h b i q = subst (λ (t : SnapData). IsExchange (codes " snap " ++ bytes) (commands.Snap name) (replies.Snapped t)) (sym q) (record {
  text = λ names.
      ap (λ t. codes " snap " ++ t) e ∙ ap (λ (v : ℕ). front name v to r₁) (sym f.0) ∙ ap (λ (v : ℕ). front name xmin v r₁) (sym g.0)
      ∙ snap_text name r₁ xmin xmax (listed xip subxip) (lists_end r₁ r₂ r₃ r₄ xip subxip a h b i);
  command = n;
  reply = (refl, record { xmin = f.1; xmax = g.1; xip = a.each; subxip = b.each });
})

-- ---- multixacts

given_words : (multi offset : ℕ) → codes " -> ok " ++ (decimal multi ++ 32 ∷ (decimal offset ++ 10 ∷ [])) ≡ more (codes "->" ∷ codes "ok" ∷ decimal multi ∷ decimal offset ∷ []) ++ 10 ∷ []
given_words multi offset =
    let l : List ℕ = 32 ∷ (decimal multi ++ 32 ∷ (decimal offset ++ 10 ∷ [])) in
    let e : l ≡ more (decimal multi ∷ decimal offset ∷ []) ++ 10 ∷ [] = word_before (decimal multi) (decimal offset ∷ []) (32 ∷ (decimal offset ++ 10 ∷ [])) (last_word (decimal offset)) in
    word_before (codes "->") (codes "ok" ∷ decimal multi ∷ decimal offset ∷ []) (32 ∷ (codes "ok" ++ l)) (word_before (codes "ok") (decimal multi ∷ decimal offset ∷ []) l e)

pub is_made : (bytes rest : List ℕ) (members : List Pair) (n multi offset : ℕ) → AreInFront pair_word FitsPair bytes members rest → rest ≡ codes " -> ok " ++ (decimal n ++ 32 ∷ (decimal offset ++ 10 ∷ [])) → (multi ≡ n) × FitsMulti multi → offset < 2 ^ 64 → IsExchange (codes " multi" ++ bytes) (commands.Multi members) (replies.Multi multi offset false)
unfolding command_word
is_made bytes rest members n multi offset a e f g =
    let ws : Words = codes "->" ∷ codes "ok" ∷ decimal multi ∷ decimal offset ∷ [] in record {
      text = λ names. word_before (codes "multi") (pair_words members ++ ws) bytes (a.text ∙ words_before (pair_words members) ws rest (e ∙ given_words n offset ∙ ap (λ (v : ℕ). more (codes "->" ∷ codes "ok" ∷ decimal v ∷ decimal offset ∷ []) ++ 10 ∷ []) (sym f.0)));
      command = a.each;
      reply = (refl, f.1, g);
    }

pub is_saw : (bytes rest end name : List ℕ) (n : ℕ) (list : List MemberVerdict) → bytes ≡ look_front name n rest → IsName name → 1 ≤ n → n < 2 ^ 32 → AreInFront member_verdict_word FitsVerdict rest list end → end ≡ 10 ∷ [] → IsExchange (codes " seemulti " ++ bytes) (commands.SeeMulti name (record { number = n })) (replies.Verdicts list)
unfolding command_word
is_saw bytes rest end name n list e f some small a g =
    let w₁ : Words = codes "ok" ∷ member_verdict_words list in
    let w₂ : Words = decimal n ∷ codes "->" ∷ w₁ in
    let l₁ : List ℕ = codes " ok" ++ rest in
    let l₂ : List ℕ = 32 ∷ (decimal n ++ (codes " ->" ++ l₁)) in
    let e₁ : l₁ ≡ more w₁ ++ 10 ∷ [] = word_before (codes "ok") (member_verdict_words list) rest (a.text ∙ ap (λ t. more (member_verdict_words list) ++ t) g) in
    let e₂ : l₂ ≡ more w₂ ++ 10 ∷ [] = word_before (decimal n) (codes "->" ∷ w₁) (codes " ->" ++ l₁) (word_before (codes "->") w₁ l₁ e₁) in
    record {
      text = λ names. ap (λ t. codes " seemulti " ++ t) e ∙ word_before (codes "seemulti") (name ∷ w₂) (32 ∷ (name ++ l₂)) (word_before name w₂ l₂ e₂);
      command = (f, some, small);
      reply = (refl, a.each);
    }

-- what is found behind a piece is found
pub told_behind : {E : Type 0} (r : Result (Option (Command × Reply)) E) (rest piece tail : List ℕ) → rest ≡ piece ++ tail → IfOk r (λ found. IfSome found (λ x. IsExchange (piece ++ tail) x.0 x.1)) → IfOk r (λ found. IfSome found (λ x. IsExchange rest x.0 x.1))
told_behind r rest piece tail e h = subst (λ t. IfOk r (λ found. IfSome found (λ x. IsExchange t x.0 x.1))) (sym e) h
