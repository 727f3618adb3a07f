-- Where a log is found that volumes fit, and each image of each bank by itself.
use Rattle.std.proofs.Common.{Bool, IfOk, IsSome, List, None, Ok, Option, Result, Some, ap, arith, cond, false, inl, length, refl, subst, sym, true, ℕ, ◌<◌, ◌==◌, ◌∙◌, ◌≡◌}
use Rattle.std.proofs.lemmas.Bool.Decides.{nat_tests}
use Rattle.std.specs.List.{slice_get}
use Rattle.disk_core.specs.Pages.{Pages}
use Rattle.disk_core.specs.declared.log_disk.LogDisk as logs
use Rattle.disk_core.specs.declared.page_disk.PageDisk as disks
use Rattle.tx_events.specs.declared.record.Counters.{Counters}
use Rattle.tx_events.specs.declared.record.Rec.{Rec}
use Rattle.wal_core.specs.Log.{EndsWithin}
use Rattle.wal_core.specs.Opening.{Opened, opened}
use Rattle.recoverable.specs.Fit.{KeptLog, XactFits, log_end}
use Rattle.recoverable.specs.FitMultis.{MembersFit, OffsetsFit}
use Rattle.recoverable.specs.Volumes.{ImageFits, Left}
use Rattle.recoverable.proofs.Stretches.{get_inside}
use Rattle.replay_core.specs.declared.volumes.PageVolumes.{PageVolumes}
use Rattle.replay_core.specs.Opened.{OpensStill}
use Rattle.recoverable.specs.Clusters.{AreLeft, Fit}
use Rattle.replay_core.specs.Volumes.{LeavesFit}
use Rattle.replay_core.proofs.LaterLogs.{FoundIn, found_in, keeps_itself}
use Rattle.replay_core.proofs.Rows.{some_same}

abbrev nothing : Pages
nothing q = None

same_number : (a b : ℕ) → (a == b) ≡ true → a ≡ b
same_number a b e = grind (arith, nat_tests, e)

itself : (a : ℕ) → (a == a) ≡ true
itself a = grind (arith, nat_tests)

module _ {L P : Type 0} (l : logs.Ghosts L) (p : disks.Ghosts P) where
  abbrev pages_of : Option P → Pages
  pages_of None = nothing
  pages_of (Some d) = p.pages d

  -- what reads give of the volumes of a store, and of one bank this image
  abbrev pages_at : List P → ℕ → Pages
  pages_at xs b = pages_of (slice_get xs b)

  abbrev pick_at : List P → ℕ → Pages → ℕ → Pages
  pick_at xs bank c b = cond (b == bank) c (pages_of (slice_get xs b))

  reads_left : ((d : P) → p.images d (p.pages d)) → (xs : List P) → AreLeft l p xs (pages_at xs)
  reads_left each xs b d e = subst (λ (o : Option P). p.images d (pages_of o)) (sym e) (each d)

  pick_left : ((d : P) → p.images d (p.pages d)) → (xs : List P) (bank : ℕ) (disk : P) (c : Pages) → slice_get xs bank ≡ Some disk → p.images disk c → AreLeft l p xs (pick_at xs bank c)
  pick_left each xs bank disk c at image b d e = pick (b == bank) refl
    where
      pick : (t : Bool) → (b == bank) ≡ t → p.images d (cond t c (pages_of (slice_get xs b)))
      pick true q =
          let here : b ≡ bank = same_number b bank q in
          let same : disk ≡ d = some_same disk d (sym at ∙ ap (slice_get xs) (sym here) ∙ e) in
          subst (λ z. p.images z c) same image
      pick false q = subst (λ (o : Option P). p.images d (pages_of o)) (sym e) (each d)

  -- each image of each bank fits the log as it begins here
  pub record Located (log : KeptLog) (first : ℕ) (old : PageVolumes P) : Type 0 where
    pub states : (bank : ℕ) (disk : P) (c : Pages) → slice_get old.xact.items bank ≡ Some disk → p.images disk c → XactFits (length old.xact.items) bank log first c
    pub offsets : (bank : ℕ) (disk : P) (c : Pages) → slice_get old.offsets.items bank ≡ Some disk → p.images disk c → OffsetsFit (length old.xact.items) bank log first c
    pub members : (bank : ℕ) (disk : P) (c : Pages) → slice_get old.members.items bank ≡ Some disk → p.images disk c → MembersFit (length old.xact.items) bank log first c

  module _ (v : L) (old : PageVolumes P) (offsets_count : length old.offsets.items ≡ length old.xact.items) (members_count : length old.members.items ≡ length old.xact.items) (log : KeptLog)
      (fit : Fit l p log v old.xact.items old.offsets.items old.members.items) (reads : l.images v (l.reads v)) (each : (d : P) → p.images d (p.pages d)) where
    fits_at : (x o m : ℕ → Pages) → AreLeft l p old.xact.items x → AreLeft l p old.offsets.items o → AreLeft l p old.members.items m → ImageFits (length old.xact.items) log (record { log = l.reads v; xact = x; offsets = o; members = m })
    fits_at x o m a b c = fit.each (record { log = l.reads v; xact = x; offsets = o; members = m }) (record { log_image = reads; states = a; offsets_are = b; members_are = c })

    read_fits : ImageFits (length old.xact.items) log (record { log = l.reads v; xact = pages_at old.xact.items; offsets = pages_at old.offsets.items; members = pages_at old.members.items })
    read_fits = fits_at (pages_at old.xact.items) (pages_at old.offsets.items) (pages_at old.members.items) (reads_left each old.xact.items) (reads_left each old.offsets.items) (reads_left each old.members.items)

    pub ends_within : EndsWithin (l.reads v)
    ends_within = subst (λ (r : Result Opened ℕ). IfOk r (λ o. IsSome o.history → o.gate < length (l.reads v).bytes)) (sym read_fits.opens.opens) (λ s. read_fits.opens.within)

    -- after a refusal at the log each image opens as one of before
    pub still_fits : (new : L) → OpensStill l v new → LeavesFit l p old.xact.items new old.xact.items old.offsets.items old.members.items log
    still_fits new still = record {
      later = log;
      recovers = record { upto = log_end log; keeps = inl (keeps_itself log fit.list) };
      fits = record {
        list = fit.list;
        each = λ left is.
            let was = still left.log is.log_image in
            let before : Left = record { log = was.0; xact = left.xact; offsets = left.offsets; members = left.members } in
            let f : ImageFits (length old.xact.items) log before = fit.each before (record { log_image = was.1; states = is.states; offsets_are = is.offsets_are; members_are = is.members_are }) in
            let within : EndsWithin was.0 = subst (λ (r : Result Opened ℕ). IfOk r (λ o. IsSome o.history → o.gate < length was.0.bytes)) (sym f.opens.opens) (λ s. f.opens.within) in
            let ends : EndsWithin left.log = was.2.1 within in
            let opens : opened left.log ≡ Ok (record { history = Some f.opens.history; gate = f.opens.gate }) = was.2.0 ∙ f.opens.opens in
            record {
              begins = f.begins;
              may_begin = f.may_begin;
              opens = record {
                history = f.opens.history;
                gate = f.opens.gate;
                opens = opens;
                within = (subst (λ (r : Result Opened ℕ). IfOk r (λ o. IsSome o.history → o.gate < length left.log.bytes)) opens ends) refl;
                first = f.opens.first;
                from = f.opens.from;
                recs = f.opens.recs;
                counters = f.opens.counters;
                flushed = f.opens.flushed;
                upto = f.opens.upto;
              };
              xact = f.xact;
              offsets = f.offsets;
              members = f.members;
            };
      };
    }

    module _ (first gate : ℕ) (recs : List Rec) (base : Counters)
        (opens : opened (l.reads v) ≡ Ok (record { history = Some (record { first = first; recs = recs; counters = base }); gate = gate })) where
      begins_at : (x o m : ℕ → Pages) (f : ImageFits (length old.xact.items) log (record { log = l.reads v; xact = x; offsets = o; members = m })) → (f.begins ≡ first) × FoundIn log first recs base
      begins_at x o m f = found_in log f.begins first gate recs base (l.reads v) fit.list f.may_begin f.opens opens

      pub is_found : FoundIn log first recs base
      is_found = (begins_at (pages_at old.xact.items) (pages_at old.offsets.items) (pages_at old.members.items) read_fits).1

      pub located : Located log first old
      located = record {
        states = λ bank disk c at image.
            let x = pick_at old.xact.items bank c in let o = pages_at old.offsets.items in let m = pages_at old.members.items in
            let f = fits_at x o m (pick_left each old.xact.items bank disk c at image) (reads_left each old.offsets.items) (reads_left each old.members.items) in
            let inside : bank < length old.xact.items = get_inside old.xact.items bank disk at in
            subst (λ n. XactFits (length old.xact.items) bank log n c) (begins_at x o m f).0
            (subst (λ (t : Bool). XactFits (length old.xact.items) bank log f.begins (cond t c (pages_at old.xact.items bank))) (itself bank) (f.xact bank inside));
        offsets = λ bank disk c at image.
            let x = pages_at old.xact.items in let o = pick_at old.offsets.items bank c in let m = pages_at old.members.items in
            let f = fits_at x o m (reads_left each old.xact.items) (pick_left each old.offsets.items bank disk c at image) (reads_left each old.members.items) in
            let inside : bank < length old.xact.items = let z = get_inside old.offsets.items bank disk at in omega (arith, z, offsets_count) in
            subst (λ n. OffsetsFit (length old.xact.items) bank log n c) (begins_at x o m f).0
            (subst (λ (t : Bool). OffsetsFit (length old.xact.items) bank log f.begins (cond t c (pages_at old.offsets.items bank))) (itself bank) (f.offsets bank inside));
        members = λ bank disk c at image.
            let x = pages_at old.xact.items in let o = pages_at old.offsets.items in let m = pick_at old.members.items bank c in
            let f = fits_at x o m (reads_left each old.xact.items) (reads_left each old.offsets.items) (pick_left each old.members.items bank disk c at image) in
            let inside : bank < length old.xact.items = let z = get_inside old.members.items bank disk at in omega (arith, z, members_count) in
            subst (λ n. MembersFit (length old.xact.items) bank log n c) (begins_at x o m f).0
            (subst (λ (t : Bool). MembersFit (length old.xact.items) bank log f.begins (cond t c (pages_at old.members.items bank))) (itself bank) (f.members bank inside));
      }
