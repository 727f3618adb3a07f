-- Replies are read again.
use Rattle.std.proofs.Common.{rules, ◌≡◌, ℕ, ◌+◌, ◌*◌, ◌/◌, ◌%◌, ◌^◌, ◌<◌, List, [], ◌∷◌, ◌++◌, map, Bool, true, false, Option, Some, refl, sym, ap, ◌∙◌, arith, append-nil, nat_lt, codes, length}
use Rattle.std.specs.List.{AllByRecursion}
use Rattle.std.specs.Fmt.{decimal}
use Rattle.std.specs.Str.{bytes_eq}
use Rattle.std.proofs.lemmas.Bool.Decides.{nat_tests}
use Rattle.std.proofs.lemmas.Slice.Eq.{bytes_eq-Decides}
use Rattle.tx_model.specs.declared.reply.Reply.{Reply}
use Rattle.tx_model.specs.declared.reply.Reply.TheVariants as replies
use Rattle.tx_events.specs.declared.refusal.Refusal.{Refusal}
use Rattle.tx_events.specs.declared.refusal.Refusal.TheVariants as refusals
use Rattle.tx_events.specs.declared.snapshot.SnapData.{SnapData}
use Rattle.tx_model.specs.declared.reply.Status.TheVariants as statuses
use Rattle.report_text.specs.Words.{numbers, numbers_or_dash, yes_or_no, name_at}
use Rattle.report_text.specs.ReplyText.{reply_words, refusal_word, refusal_words, warned, status_word, snapshot_words, hex_digit, hex_word}
use Rattle.report_words.specs.Words.{IsWord, AreWords, is_shown}
use Rattle.report_words.specs.Reading.{◌>>=◌}
use Rattle.report_words.specs.Fits.{FitsId, FitsSnap, AreNames}
use Rattle.report_words.proofs.Ids.{NoIds, none_here}
use Rattle.report_words.proofs.Places.{place_again}
use Rattle.report_words.proofs.Again.{number_at_again, number_word, id_again, name_is_word}
use Rattle.report_words.proofs.Snaps.{ReadsList, list_again, multi_again, snap_again}
use Rattle.report_words.specs.declared.reply.Kind.{Kind}
use Rattle.report_words.specs.Members.{is_arrow, until_arrow}
use Rattle.report_words.specs.Replies.{warn_at, wrote_at, multi_reply_at, horizon_at, is_answer, look_in, status_in, did_in, reply_at, pending_at, checkpoint_reply_at, hex_value, byte_of, bytes_at, cut_at, dump_reply_at}
use Rattle.report_words.specs.Fits.{FitsReply, FitsRefusal, IsPending, FitsCheckpointRefusal, FitsCheckpointReply, FitsDumpRefusal, FitsDumpReply}
use Rattle.report_words.proofs.AgainMembers.{small_again, until_again, verdicts_again, words_append, are_words, verdicts_are_words}
use Rattle.report_words.proofs.AgainRefusals.{refusal_again, refusal_not_ok, refusal_no_answer, refusal_is_word, refusal_rest_are_words}

warn_again : (b : Bool) → warn_at (warned b) ≡ b
warn_again true = refl
warn_again false = refl

warned_none : (b : Bool) → NoIds (warned b)
warned_none true = none_here (codes "warn") [] refl
warned_none false = record { ids = refl; rest = refl }

wrote_again : (ids : List ℕ) (warn : Bool) → AllByRecursion FitsId ids → wrote_at (numbers_or_dash ids ++ warned warn) ≡ Some (replies.Wrote warn ids)
unfolding wrote_at
wrote_again ids warn a =
    let l : ReadsList (numbers_or_dash ids ++ warned warn) ids (warned warn) = list_again ids (warned warn) a (warned_none warn) in
    rw (l.ids_are, l.rest_is, warn_again warn) refl

reply_again_refused : (k : Kind) (r : Refusal) → FitsRefusal r → reply_at k (refusal_words r) ≡ Some (replies.Refused r)
unfolding reply_at
reply_again_refused k r f = rw (refusal_not_ok r, refusal_no_answer r, refusal_again r f) refl

pub reply_again : (names : List (List ℕ)) (k : Kind) (r : Reply) → FitsReply k r → reply_at k (reply_words names r) ≡ Some r
unfolding reply_at multi_reply_at horizon_at is_answer look_in status_in did_in status_word
reply_again names k replies.Done f = rw f refl
reply_again names k (replies.Wrote warn ids) f = rw f.0 (wrote_again ids warn f.1)
reply_again names k (replies.Snapped s) f = rw (f.0, snap_again s f.1) refl
reply_again names k (replies.Seen true) f = rw f refl
reply_again names k (replies.Seen false) f = rw f refl
reply_again names k (replies.Known statuses.InProgress) f = rw f refl
reply_again names k (replies.Known statuses.Committed) f = rw f refl
reply_again names k (replies.Known statuses.Aborted) f = rw f refl
reply_again names k (replies.Did true) f = rw f refl
reply_again names k (replies.Did false) f = rw f refl
reply_again names k (replies.Multi multi offset warn) f = rw (f.0, number_at_again multi _ f.1.0, multi_again multi f.1, number_at_again offset _ f.2, warn_again warn) refl
reply_again names k (replies.Verdicts list) f = rw (f.0, verdicts_again list f.1) refl
reply_again names k (replies.Horizon id) f = rw (f.0, number_at_again id _ f.1.0, id_again id f.1) refl
reply_again names k (replies.Refused refusal) f = reply_again_refused k refusal f
reply_again names k _ f = absurd f

-- ---- checkpoints and dumps

checkpoint_refused : (names : List (List ℕ)) (r : Refusal) → FitsRefusal r → bytes_eq (refusal_word r) (codes "commit-pending") ≡ false → bytes_eq (refusal_word r) (codes "multi-pending") ≡ false → checkpoint_reply_at names (refusal_words r) ≡ Some (replies.Refused r)
unfolding checkpoint_reply_at
checkpoint_refused names r f a b = rw (refusal_not_ok r, a, b, refusal_again r f) refl

checkpoint_refusal_again : (names : List (List ℕ)) (r : Refusal) → FitsCheckpointRefusal r → checkpoint_reply_at names (refusal_words r) ≡ Some (replies.Refused r)
unfolding refusal_word
checkpoint_refusal_again names (refusals.LogDown at) f = checkpoint_refused names (refusals.LogDown at) f refl refl
checkpoint_refusal_again names refusals.LogFault f = checkpoint_refused names refusals.LogFault f refl refl
checkpoint_refusal_again names (refusals.DiskFault lock) f = checkpoint_refused names (refusals.DiskFault lock) f refl refl
checkpoint_refusal_again names refusals.Full f = checkpoint_refused names refusals.Full f refl refl
checkpoint_refusal_again names refusals.Memory f = checkpoint_refused names refusals.Memory f refl refl
checkpoint_refusal_again names _ f = absurd f

pending_again : (names : List (List ℕ)) (session : ℕ) (r : Refusal) → AreNames names → session < length names → pending_at names r (name_at names session ∷ []) ≡ Some (replies.Pending session r)
unfolding pending_at
pending_again names session r n l = rw (place_again names session n.distinct l) refl

checkpoint_pending_again : (names : List (List ℕ)) (session : ℕ) (r : Refusal) → AreNames names → session < length names → IsPending r → checkpoint_reply_at names (refusal_word r ∷ name_at names session ∷ []) ≡ Some (replies.Pending session r)
unfolding checkpoint_reply_at refusal_word
checkpoint_pending_again names session refusals.CommitPending n l f = pending_again names session refusals.CommitPending n l
checkpoint_pending_again names session refusals.MultiPending n l f = pending_again names session refusals.MultiPending n l
checkpoint_pending_again names session _ n l f = absurd f

checkpoint_reply_again_done : (names : List (List ℕ)) → checkpoint_reply_at names (codes "ok" ∷ []) ≡ Some replies.Done
unfolding checkpoint_reply_at
checkpoint_reply_again_done names = refl

pub checkpoint_reply_again : (names : List (List ℕ)) (r : Reply) → AreNames names → FitsCheckpointReply names r → checkpoint_reply_at names (reply_words names r) ≡ Some r
checkpoint_reply_again names replies.Done n f = checkpoint_reply_again_done names
checkpoint_reply_again names (replies.Pending session refusal) n f = checkpoint_pending_again names session refusal n f.0 f.1
checkpoint_reply_again names (replies.Refused refusal) n f = checkpoint_refusal_again names refusal f
checkpoint_reply_again names _ n f = absurd f

hex_back : (d : ℕ) (b : Bool) → nat_lt d 10 ≡ b → d < 16 → hex_value (hex_digit d) ≡ d
hex_back d true e l = grind (arith, nat_tests)
hex_back d false e l = grind (arith, nat_tests)

byte_again : (b : ℕ) → b < 256 → byte_of (hex_word b) ≡ Some b
unfolding hex_word
byte_again b l =
    let high : hex_value (hex_digit (b / 16)) ≡ b / 16 = hex_back (b / 16) (nat_lt (b / 16) 10) refl (omega arith) in
    let low : hex_value (hex_digit (b % 16)) ≡ b % 16 = hex_back (b % 16) (nat_lt (b % 16) 10) refl (omega arith) in
    let whole : (16 * (b / 16) + b % 16) % 256 ≡ b = omega arith in
    rw (high, low, whole) refl

some_is : (n m : ℕ) → Some n ≡ Some m → n ≡ m
some_is n m e = cc

no_arrow_byte : is_arrow (hex_word 183) ≡ false
unfolding hex_word
no_arrow_byte = refl

apart_at : (b : ℕ) (t : Bool) → b < 256 → is_arrow (hex_word b) ≡ t → is_arrow (hex_word b) ≡ false
apart_at b false l g = g
apart_at b true l g =
    let same : hex_word b ≡ codes "->" = (bytes_eq-Decides (hex_word b) (codes "->")).0 g in
    let e : Some b ≡ Some 183 = sym (byte_again b l) ∙ ap byte_of same in
    ap (λ k. is_arrow (hex_word k)) (some_is b 183 e) ∙ no_arrow_byte

byte_apart : (b : ℕ) → b < 256 → is_arrow (hex_word b) ≡ false
byte_apart b l = apart_at b (is_arrow (hex_word b)) l refl

all_bytes : (bs : List ℕ) → AllByRecursion (λ b. b < 256) bs → bytes_at (map hex_word bs) ≡ Some (replies.Bytes bs)
all_bytes bs a = ap (λ (o : Option (List ℕ × List (List ℕ))). o >>= λ b. Some (replies.Bytes b.0)) (ap (until_arrow byte_of []) (sym (append-nil (map hex_word bs))) ∙ until_again byte_of hex_word (λ b. b < 256) byte_again byte_apart [] bs [] (λ acc. refl) a)

dump_bytes_again_long : (b : ℕ) → nat_lt (length (hex_word b)) 2 ≡ false
unfolding hex_word
dump_bytes_again_long b = refl

dump_bytes_again_longer : (b : ℕ) → nat_lt (length (hex_word b)) 3 ≡ true
unfolding hex_word
dump_bytes_again_longer b = refl

dump_bytes_again : (b : ℕ) (bs : List ℕ) → AllByRecursion (λ b. b < 256) (b ∷ bs) → dump_reply_at (map hex_word (b ∷ bs)) ≡ Some (replies.Bytes (b ∷ bs))
unfolding dump_reply_at
dump_bytes_again b bs a = rw (dump_bytes_again_long b, dump_bytes_again_longer b) (all_bytes (b ∷ bs) a)

dump_refused : (r : Refusal) → FitsRefusal r → nat_lt (length (refusal_word r)) 2 ≡ false → nat_lt (length (refusal_word r)) 3 ≡ false → bytes_eq (refusal_word r) (codes "cut") ≡ false → dump_reply_at (refusal_words r) ≡ Some (replies.Refused r)
unfolding dump_reply_at
dump_refused r f a b c = rw (a, b, c, refusal_again r f) refl

dump_refusal_again : (r : Refusal) → FitsDumpRefusal r → dump_reply_at (refusal_words r) ≡ Some (replies.Refused r)
unfolding refusal_word
dump_refusal_again refusals.LogFault f = dump_refused refusals.LogFault f refl refl refl
dump_refusal_again (refusals.DiskFault lock) f = dump_refused (refusals.DiskFault lock) f refl refl refl
dump_refusal_again _ f = absurd f

cut_again : (n : ℕ) → n < 2 ^ 32 → dump_reply_at (codes "cut" ∷ decimal n ∷ []) ≡ Some (replies.Cut n)
unfolding dump_reply_at cut_at
cut_again n l = rw (number_at_again n [] (omega arith), small_again n l) refl

no_bytes_again : dump_reply_at (codes "-" ∷ []) ≡ Some (replies.Bytes [])
unfolding dump_reply_at
no_bytes_again = refl

pub dump_reply_again : (names : List (List ℕ)) (r : Reply) → FitsDumpReply r → dump_reply_at (reply_words names r) ≡ Some r
dump_reply_again names (replies.Bytes []) f = no_bytes_again
dump_reply_again names (replies.Bytes (b ∷ bs)) f = dump_bytes_again b bs f
dump_reply_again names (replies.Cut cutoff) f = cut_again cutoff f
dump_reply_again names (replies.Refused refusal) f = dump_refusal_again refusal f
dump_reply_again names _ f = absurd f

-- ---- words

pub ids_are_words : (ids : List ℕ) → AllByRecursion FitsId ids → AreWords (numbers ids)
ids_are_words ids a = are_words decimal FitsId (λ n f. number_word n f.0) ids a

list_are_words : (ids : List ℕ) → AllByRecursion FitsId ids → AreWords (numbers_or_dash ids)
list_are_words [] a = search rules
list_are_words (x ∷ ids) a = ids_are_words (x ∷ ids) a

warned_are_words : (b : Bool) → AreWords (warned b)
warned_are_words true = search rules
warned_are_words false = tt

yes_is_word : (b : Bool) → IsWord (yes_or_no b)
yes_is_word true = search rules
yes_is_word false = search rules

snapshot_are_words : (s : SnapData) → FitsSnap s → AreWords (snapshot_words s)
unfolding snapshot_words
snapshot_are_words s f =
    let a : AreWords (codes "xmin" ∷ decimal s.xmin ∷ codes "xmax" ∷ decimal s.xmax ∷ codes "xip" ∷ numbers_or_dash s.xip) = (search rules, (number_word s.xmin f.xmin.0, (search rules, (number_word s.xmax f.xmax.0, (search rules, list_are_words s.xip f.xip))))) in
    let b : AreWords (codes "sub" ∷ numbers_or_dash s.subxip) = (search rules, list_are_words s.subxip f.subxip) in
    let c : AreWords (codes "overflow" ∷ yes_or_no s.overflowed ∷ []) = (search rules, (yes_is_word s.overflowed, tt)) in
    words_append ((codes "xmin" ∷ decimal s.xmin ∷ codes "xmax" ∷ decimal s.xmax ∷ codes "xip" ∷ numbers_or_dash s.xip) ++ (codes "sub" ∷ numbers_or_dash s.subxip)) (codes "overflow" ∷ yes_or_no s.overflowed ∷ []) (words_append (codes "xmin" ∷ decimal s.xmin ∷ codes "xmax" ∷ decimal s.xmax ∷ codes "xip" ∷ numbers_or_dash s.xip) (codes "sub" ∷ numbers_or_dash s.subxip) a b) c

pub refusal_are_words : (r : Refusal) → FitsRefusal r → AreWords (refusal_words r)
refusal_are_words r f = (refusal_is_word r, refusal_rest_are_words r f)

pub reply_are_words : (names : List (List ℕ)) (k : Kind) (r : Reply) → FitsReply k r → AreWords (reply_words names r)
unfolding status_word
reply_are_words names k replies.Done f = search rules
reply_are_words names k (replies.Wrote warn ids) f = (search rules, words_append (numbers_or_dash ids) (warned warn) (list_are_words ids f.1) (warned_are_words warn))
reply_are_words names k (replies.Snapped s) f = (search rules, snapshot_are_words s f.1)
reply_are_words names k (replies.Seen true) f = search rules
reply_are_words names k (replies.Seen false) f = search rules
reply_are_words names k (replies.Known statuses.InProgress) f = search rules
reply_are_words names k (replies.Known statuses.Committed) f = search rules
reply_are_words names k (replies.Known statuses.Aborted) f = search rules
reply_are_words names k (replies.Did b) f = (yes_is_word b, tt)
reply_are_words names k (replies.Multi multi offset warn) f = (search rules, (number_word multi f.1.0, (number_word offset f.2, warned_are_words warn)))
reply_are_words names k (replies.Verdicts list) f = (search rules, verdicts_are_words list f.1)
reply_are_words names k (replies.Horizon id) f = (search rules, (number_word id f.1.0, tt))
reply_are_words names k (replies.Refused refusal) f = refusal_are_words refusal f
reply_are_words names k _ f = absurd f

checkpoint_refusal_fits : (r : Refusal) → FitsCheckpointRefusal r → FitsRefusal r
checkpoint_refusal_fits (refusals.LogDown at) f = f
checkpoint_refusal_fits refusals.LogFault f = tt
checkpoint_refusal_fits (refusals.DiskFault lock) f = f
checkpoint_refusal_fits refusals.Full f = tt
checkpoint_refusal_fits refusals.Memory f = tt
checkpoint_refusal_fits _ f = absurd f

dump_refusal_fits : (r : Refusal) → FitsDumpRefusal r → FitsRefusal r
dump_refusal_fits refusals.LogFault f = tt
dump_refusal_fits (refusals.DiskFault lock) f = f
dump_refusal_fits _ f = absurd f

pub checkpoint_are_words : (names : List (List ℕ)) (r : Reply) → AreNames names → FitsCheckpointReply names r → AreWords (reply_words names r)
checkpoint_are_words names replies.Done n f = search rules
checkpoint_are_words names (replies.Pending session refusal) n f = (refusal_is_word refusal, (name_is_word names session n.each f.0, tt))
checkpoint_are_words names (replies.Refused refusal) n f = refusal_are_words refusal (checkpoint_refusal_fits refusal f)
checkpoint_are_words names _ n f = absurd f

hex_shown : (d : ℕ) (b : Bool) → nat_lt d 10 ≡ b → is_shown (hex_digit d) ≡ true
hex_shown d true e = grind (arith, nat_tests)
hex_shown d false e = grind (arith, nat_tests)

hex_is_word : (b : ℕ) → IsWord (hex_word b)
unfolding hex_word
hex_is_word b = (hex_shown (b / 16) (nat_lt (b / 16) 10) refl, (hex_shown (b % 16) (nat_lt (b % 16) 10) refl, tt))

pub dump_are_words : (names : List (List ℕ)) (r : Reply) → FitsDumpReply r → AreWords (reply_words names r)
dump_are_words names (replies.Bytes []) f = search rules
dump_are_words names (replies.Bytes (b ∷ bs)) f = are_words hex_word (λ b. b < 256) (λ b l. hex_is_word b) (b ∷ bs) f
dump_are_words names (replies.Cut cutoff) f = (search rules, (number_word cutoff (omega arith), tt))
dump_are_words names (replies.Refused refusal) f = refusal_are_words refusal (dump_refusal_fits refusal f)
dump_are_words names _ f = absurd f
