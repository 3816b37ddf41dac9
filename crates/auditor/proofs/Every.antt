-- The third demand over the contracts as the source states them: each call's answer is any that its `ensures` allows, so that a weaker `ensures` does not
-- prove it. Assumes nothing.
use mathlib.Core.Path.{◌≡◌, refl, sym, ap, ◌∙◌}
use mathlib.Core.List.{List, [], ◌∷◌, ◌++◌}
use Prim.Native.Nat.{ℕ, zero, suc, ◌+◌, ◌≤◌}
use native.Mathlib.Omega.{arith}
use lib.ListN.{length, take}
use contract.Lifetimes.{Lfts}
use denote.Ref.{Bor}
use denote.MutBor.{MutBor}
use Rattle.auditor.specs.declared.Record.{Record}
use Rattle.auditor.specs.declared.Answered.{Answered}
use Rattle.auditor.specs.declared.dispute.Settled.{Settled}
use Rattle.auditor.specs.declared.dispute.Settled.TheVariants.{Same, Nodes, Pages, Refused}
use Rattle.auditor.specs.declared.journal.Appended.TheVariants.{Used}
use Rattle.hash.specs.Algorithm.{algorithm_of}
use Rattle.tree.specs.Build.{Outcome, wrote}
use Rattle.octets.specs.Bytes.{put}
use Rattle.auditor.specs.Held.{empty_record}
use Rattle.auditor.specs.Offer.{offered}
use Rattle.auditor.specs.Page.{asked}
use Rattle.auditor.specs.Heads.{last_size, last_root, joined_heads, heads_of}
use Rattle.auditor.specs.Calls.{Call, offer, ask, Entry, answered, Numbered, under, plain, called, entry, answers, final, heads}
use Rattle.auditor.specs.Dispute.{Ruling, same_page, of_nodes, of_pages, settling, dispute_report, pair_disputed, dispute_by}
use Rattle.auditor.specs.Demand.{Settles, OfHash, SoundBy, WhateverGiven, Demand3}
use Rattle.octets.specs.Answer.{Answer, done, refused}
use Rattle.auditor.specs.Journal.{append, append_report, journal_after}
use Rattle.auditor.specs.Keeping.{kept, noted, if_kept, journaled, AsKept}
use Rattle.auditor.proofs.Settling.{whatever_given, demand3}
use Rattle.auditor.proofs.Keeping.{no_lost, as_kept}
use Rattle.auditor.proofs.empty.Reads as empty-reads
use Rattle.auditor.proofs.head.offer.Reads as offer-reads
use Rattle.auditor.proofs.page.ask.Reads as ask-reads
use Rattle.auditor.proofs.dispute.dispute.Reads as dispute-reads
use Rattle.auditor.proofs.journal.append.Reads as append-reads
use Rattle.carry.specs.Limits.{pair_bytes}

-- what was called and answered, where each call got the record that the one before returned, and the record after it
pub data Run : Record → List (Numbered Entry) → Record → Type 0 where
  stop : {r : Record} → Run r [] r
  offers : {r s : Record} {es : List (Numbered Entry)} (κs : Lfts 3) (n : ℕ) (id : Bor (List ℕ)) (time size : ℕ) (root path : Bor (List ℕ)) (o : Answered) →
      offer-reads.Learnt κs (n, (r, (id, (time, (size, (root, (path, tt))))))) o (n, (r, (id, (time, (size, (root, (path, tt))))))) →
      Run o.after es s → Run r (under n (answered (offer id.now time size root.now path.now) o.number) ∷ es) s
  asks : {r s : Record} {es : List (Numbered Entry)} (κs : Lfts 2) (n place : ℕ) (page path : Bor (List ℕ)) (o : Answered) →
      ask-reads.Learnt κs (n, (r, (place, (page, (path, tt))))) o (n, (r, (place, (page, (path, tt))))) →
      Run o.after es s → Run r (under n (answered (ask place page.now path.now) o.number) ∷ es) s

-- such a run is the list of answers of a list of calls
Lists : Record → List (Numbered Entry) → Record → List (Numbered Call) → Type 0
Lists r es s calls = (answers r calls ≡ es) × (final r calls ≡ s)

one_more : (r s : Record) (n : ℕ) (c : Call) (o : Answered) (calls : List (Numbered Call)) (es : List (Numbered Entry)) → o ≡ called r (under n c) → Lists o.after es s calls →
    Lists r (under n (answered c o.number) ∷ es) s (under n c ∷ calls)
unfolding Lists answers entry final
one_more r s n c o calls es e f = rw (← e) (ap (λ (fs : List (Numbered Entry)). under n (answered c o.number) ∷ fs) f.0, f.1)

listed : (r s : Record) (es : List (Numbered Entry)) → Run r es s → (calls : List (Numbered Call)) × Lists r es s calls
unfolding Lists answers final called
listed r s es stop = ([], (refl, refl))
listed r s es (offers κs n id time size root path o p rest) =
    let w = listed o.after s _ rest in
    let c = offer id.now time size root.now path.now in
    (under n c ∷ w.0, one_more r s n c o w.0 _ p w.1)
listed r s es (asks κs n place page path o p rest) =
    let w = listed o.after s _ rest in
    let c = ask place page.now path.now in
    (under n c ∷ w.0, one_more r s n c o w.0 _ p w.1)

-- whatever the dispute is given
pub reports :
    (κs : Lfts 7) (n place size : ℕ) (page₁ path₁ root between page₂ path₂ : Bor (List ℕ)) (pair pair' : MutBor (List ℕ)) (d : Settled) →
    dispute-reads.Learnt κs (n, (page₁, (place, (path₁, (size, (root, (between, (page₂, (path₂, (pair, tt)))))))))) d (n, (page₁, (place, (path₁, (size, (root, (between, (page₂, (path₂, (pair', tt)))))))))) →
    SoundBy (algorithm_of n) page₁.now page₂.now (settling d) pair'.now pair.now
reports κs n place size page₁ path₁ root between page₂ path₂ pair pair' d p =
    rw (p.0, p.1) (whatever_given n page₁.now place path₁.now size root.now between.now page₂.now path₂.now pair.now)

-- over every run from the empty record
pub every :
    (start end : Record) → empty-reads.Learnt tt tt start tt →
    (before between rest : List (Numbered Entry)) (n₁ n₂ place : ℕ) (page₁ path₁ page₂ path₂ : Bor (List ℕ)) →
    Run start (before ++ (under n₁ (answered (ask place page₁.now path₁.now) 0) ∷ (between ++ (under n₂ (answered (ask place page₂.now path₂.now) 0) ∷ rest)))) end →
    (κs : Lfts 7) (size : ℕ) (root joined : Bor (List ℕ)) (pair pair' : MutBor (List ℕ)) (d : Settled) →
    size ≡ last_size 0 (heads (plain before)) → root.now ≡ last_root [] (heads (plain before)) → joined.now ≡ joined_heads (heads (plain between)) → pair_bytes ≤ length pair.now →
    dispute-reads.Learnt κs (n₁, (page₁, (place, (path₁, (size, (root, (joined, (page₂, (path₂, (pair, tt)))))))))) d (n₁, (page₁, (place, (path₁, (size, (root, (joined, (page₂, (path₂, (pair', tt)))))))))) →
    (n₁ ≡ n₂) × OfHash (algorithm_of n₁) (λ H. Settles H page₁.now page₂.now (settling d) pair'.now)
unfolding Lists
every start end s before between rest n₁ n₂ place page₁ path₁ page₂ path₂ run κs size root joined pair pair' d es er ej long p =
    let w = listed start end _ run in
    let e = ap (λ (r : Record). answers r w.0) (sym s) ∙ w.1.0 in
    rw (p.0, p.1, es, er, ej) (demand3 w.0 before between rest n₁ n₂ place page₁.now path₁.now page₂.now path₂.now pair.now e long)

-- ---- the same with a journal

-- A run in which the program appends each accepted head to its journal: with the buffer and how much of it is used, before and after.
pub data Journals : Record → List (Numbered Entry) → Record → List ℕ → ℕ → List ℕ → ℕ → Type 0 where
  stop : {r : Record} {bytes : List ℕ} {used : ℕ} → Journals r [] r bytes used bytes used
  takes :
      {r s : Record} {es : List (Numbered Entry)} {bytes : List ℕ} {used : ℕ} (κs : Lfts 3) (n : ℕ) (id : Bor (List ℕ)) (time size : ℕ) (root path : Bor (List ℕ)) (o : Answered) →
      offer-reads.Learnt κs (n, (r, (id, (time, (size, (root, (path, tt))))))) o (n, (r, (id, (time, (size, (root, (path, tt))))))) → o.number ≡ 0 →
      (κs₂ : Lfts 3) (lent left : MutBor (List ℕ)) (start more : ℕ) →
      append-reads.Learnt κs₂ (lent, (start, (size, (root, (path, tt))))) (Used more) (left, (start, (size, (root, (path, tt))))) →
      Journals o.after es s left.now more bytes used →
      Journals r (under n (answered (offer id.now time size root.now path.now) o.number) ∷ es) s lent.now start bytes used
  refuses :
      {r s : Record} {es : List (Numbered Entry)} {lent bytes : List ℕ} {start used : ℕ} (κs : Lfts 3) (n : ℕ) (id : Bor (List ℕ)) (time size : ℕ) (root path : Bor (List ℕ)) (o : Answered) →
      offer-reads.Learnt κs (n, (r, (id, (time, (size, (root, (path, tt))))))) o (n, (r, (id, (time, (size, (root, (path, tt))))))) → (o.number ≡ 0 → ⊥) →
      Journals o.after es s lent start bytes used →
      Journals r (under n (answered (offer id.now time size root.now path.now) o.number) ∷ es) s lent start bytes used
  asks :
      {r s : Record} {es : List (Numbered Entry)} {lent bytes : List ℕ} {start used : ℕ} (κs : Lfts 2) (n place : ℕ) (page path : Bor (List ℕ)) (o : Answered) →
      ask-reads.Learnt κs (n, (r, (place, (page, (path, tt))))) o (n, (r, (place, (page, (path, tt))))) →
      Journals o.after es s lent start bytes used → Journals r (under n (answered (ask place page.now path.now) o.number) ∷ es) s lent start bytes used

-- it is a run, and its journal is that of its entries
ran : (r s : Record) (es : List (Numbered Entry)) (lent bytes : List ℕ) (start used : ℕ) → Journals r es s lent start bytes used → Run r es s
ran r s es lent bytes start used stop = stop
ran r s es lent bytes start used (takes κs n id time size root path o p z κs₂ l left st more q rest) =
    offers κs n id time size root path o p (ran o.after s _ left.now bytes more used rest)
ran r s es lent bytes start used (refuses κs n id time size root path o p z rest) = offers κs n id time size root path o p (ran o.after s _ lent bytes start used rest)
ran r s es lent bytes start used (asks κs n place page path o p rest) = asks κs n place page path o p (ran o.after s _ lent bytes start used rest)

appended : (id : List ℕ) (time size : ℕ) (root path lent left bytes : List ℕ) (start more used n : ℕ) (es : List Entry) → n ≡ 0 →
    (let o = append (length lent) start size root path in (done more ≡ append_report start o) × (left ≡ journal_after start o lent)) → journaled es left more ≡ kept bytes used →
    journaled (answered (offer id time size root path) n ∷ es) lent start ≡ kept bytes used
unfolding journaled noted if_kept
appended id time size root path lent left bytes start more used n es z p e = rw (z, ← p.0, ← p.1) e

passed_over : (id : List ℕ) (time size : ℕ) (root path lent : List ℕ) (start n : ℕ) (es : List Entry) → (n ≡ 0 → ⊥) → journaled (answered (offer id time size root path) n ∷ es) lent start ≡ journaled es lent start
unfolding journaled
passed_over id time size root path lent start zero es z = absurd (z refl)
passed_over id time size root path lent start (suc n) es z = refl

its_journal : (r s : Record) (es : List (Numbered Entry)) (lent bytes : List ℕ) (start used : ℕ) → Journals r es s lent start bytes used → journaled (plain es) lent start ≡ kept bytes used
unfolding journaled plain
its_journal r s es lent bytes start used stop = refl
its_journal r s es lent bytes start used (takes {es = fs} κs n id time size root path o p z κs₂ l left st more q rest) =
    appended id.now time size root.now path.now l.now left.now bytes st more used o.number (plain fs) z q (its_journal o.after s fs left.now bytes more used rest)
its_journal r s es lent bytes start used (refuses {es = fs} κs n id time size root path o p z rest) =
    passed_over id.now time size root.now path.now lent start o.number (plain fs) z ∙ its_journal o.after s fs lent bytes start used rest
its_journal r s es lent bytes start used (asks {es = fs} κs n place page path o p rest) = its_journal o.after s fs lent bytes start used rest

-- over every such run: the record that the first page call got has the size and root, and the journal's used part the heads
pub every_kept :
    (start held held₂ : Record) → empty-reads.Learnt tt tt start tt →
    (before between : List (Numbered Entry)) (n₁ n₂ place : ℕ) (page₁ path₁ page₂ path₂ : Bor (List ℕ)) (κs₁ κs₂ : Lfts 2) (first second : Answered) (lent bytes : List ℕ) (used : ℕ) →
    Run start before held →
    ask-reads.Learnt κs₁ (n₁, (held, (place, (page₁, (path₁, tt))))) first (n₁, (held, (place, (page₁, (path₁, tt))))) → first.number ≡ 0 →
    Journals first.after between held₂ lent 0 bytes used →
    ask-reads.Learnt κs₂ (n₂, (held₂, (place, (page₂, (path₂, tt))))) second (n₂, (held₂, (place, (page₂, (path₂, tt))))) → second.number ≡ 0 →
    (κs : Lfts 7) (root joined : Bor (List ℕ)) (pair pair' : MutBor (List ℕ)) (d : Settled) →
    root.now ≡ held.root → joined.now ≡ take used bytes → pair_bytes ≤ length pair.now →
    dispute-reads.Learnt κs (n₁, (page₁, (place, (path₁, (held.size, (root, (joined, (page₂, (path₂, (pair, tt)))))))))) d (n₁, (page₁, (place, (path₁, (held.size, (root, (joined, (page₂, (path₂, (pair', tt)))))))))) →
    (n₁ ≡ n₂) × OfHash (algorithm_of n₁) (λ H. Settles H page₁.now page₂.now (settling d) pair'.now)
unfolding Lists called
every_kept start held held₂ s before between n₁ n₂ place page₁ path₁ page₂ path₂ κs₁ κs₂ first second lent bytes used run a z js b y κs root joined pair pair' d er ej long p =
    let w = listed start held before run in
    let v = listed first.after held₂ between (ran first.after held₂ between lent bytes 0 used js) in
    let e : final empty_record w.0 ≡ held = ap (λ (r : Record). final r w.0) (sym s) ∙ w.1.1 in
    let c₁ = under n₁ (ask place page₁.now path₁.now) in
    let c₂ = under n₂ (ask place page₂.now path₂.now) in
    let g : called (final empty_record w.0) c₁ ≡ first = ap (λ (r : Record). called r c₁) e ∙ sym a in
    let j : journaled (plain (answers (called (final empty_record w.0) c₁).after v.0)) lent 0 ≡ kept bytes used =
    ap (λ (o : Answered). journaled (plain (answers o.after v.0)) lent 0) g ∙ ap (λ (es : List (Numbered Entry)). journaled (plain es) lent 0) v.1.0
    ∙ its_journal first.after held₂ between lent bytes 0 used js in
    let f : called (final (called (final empty_record w.0) c₁).after v.0) c₂ ≡ second =
    ap (λ (o : Answered). called (final o.after v.0) c₂) g ∙ ap (λ (r : Record). called r c₂) v.1.1 ∙ sym b in
    let k = as_kept w.0 v.0 n₁ n₂ place page₁.now path₁.now page₂.now path₂.now lent bytes used pair.now
    (ap (λ (o : Answered). o.number) g ∙ z) j (ap (λ (o : Answered). o.number) f ∙ y) long in
    rw (p.0, p.1, er, ej) (rw e at k)

-- ---- the claims, through the contracts: the definitions' answers are among those that the contracts allow

ref : List ℕ → Bor (List ℕ)
ref l = record { ref_ptr = (0, 0); now = l }

mut_ref : List ℕ → MutBor (List ℕ)
mut_ref l = record { ref_ptr = (0, 0); ghost_name = 0; now = l }

-- the code's answer that reports this
said : Answer Ruling → Settled
said (done same_page) = Same
said (done of_nodes) = Nodes
said (done of_pages) = Pages
said (refused n) = Refused n

said_is : (t : Answer Ruling) → settling (said t) ≡ t
unfolding said
said_is (done same_page) = refl
said_is (done of_nodes) = refl
said_is (done of_pages) = refl
said_is (refused n) = refl

runs : (r : Record) (calls : List (Numbered Call)) → Run r (answers r calls) (final r calls)
unfolding answers entry final called ref mut_ref
runs r [] = stop
runs r (under n (offer id time size root path) ∷ calls) =
    offers ([], ([], ([], tt))) n (ref id) time size (ref root) (ref path) (offered n r id time size root path) refl (runs (offered n r id time size root path).after calls)
runs r (under n (ask place page path) ∷ calls) = asks ([], ([], tt)) n place (ref page) (ref path) (asked n r place page path) refl (runs (asked n r place page path).after calls)

takes_one : (r s : Record) (es : List (Numbered Entry)) (n : ℕ) (id : List ℕ) (time size : ℕ) (root path lent bytes : List ℕ) (start used : ℕ) (w : Outcome) → append (length lent) start size root path ≡ w →
    (offered n r id time size root path).number ≡ 0 → if_kept (noted (journal_after start w lent) (append_report start w)) (journaled (plain es)) ≡ kept bytes used →
    ((l : List ℕ) (u : ℕ) → journaled (plain es) l u ≡ kept bytes used → Journals (offered n r id time size root path).after es s l u bytes used) →
    Journals r (under n (answered (offer id time size root path) (offered n r id time size root path).number) ∷ es) s lent start bytes used
unfolding ref mut_ref noted if_kept append_report journal_after
takes_one r s es n id time size root path lent bytes start used (Outcome.refused k) q z e i = absurd (no_lost bytes used k e)
takes_one r s es n id time size root path lent bytes start used (wrote x) q z e i =
    takes ([], ([], ([], tt))) n (ref id) time size (ref root) (ref path) (offered n r id time size root path) refl z ([], ([], ([], tt))) (mut_ref lent) (mut_ref (put lent start x)) start (start + length x)
    (rw q (refl, refl)) (i (put lent start x) (start + length x) e)

some_one : (r s : Record) (es : List (Numbered Entry)) (n : ℕ) (id : List ℕ) (time size : ℕ) (root path lent bytes : List ℕ) (start used k : ℕ) → (offered n r id time size root path).number ≡ k →
    journaled (answered (offer id time size root path) k ∷ plain es) lent start ≡ kept bytes used →
    ((l : List ℕ) (u : ℕ) → journaled (plain es) l u ≡ kept bytes used → Journals (offered n r id time size root path).after es s l u bytes used) →
    Journals r (under n (answered (offer id time size root path) (offered n r id time size root path).number) ∷ es) s lent start bytes used
unfolding ref mut_ref journaled
some_one r s es n id time size root path lent bytes start used zero z e i =
    takes_one r s es n id time size root path lent bytes start used (append (length lent) start size root path) refl z e i
some_one r s es n id time size root path lent bytes start used (suc k) z e i =
    refuses ([], ([], ([], tt))) n (ref id) time size (ref root) (ref path) (offered n r id time size root path) refl (λ y. one_zero (sym z ∙ y)) (i lent start e)
  where
    one_zero : suc k ≡ 0 → ⊥
    one_zero y = omega arith

journals : (r : Record) (calls : List (Numbered Call)) (lent bytes : List ℕ) (start used : ℕ) → journaled (plain (answers r calls)) lent start ≡ kept bytes used → Journals r (answers r calls) (final r calls) lent start bytes used
unfolding answers entry plain final called journaled ref mut_ref
journals r [] lent bytes start used e =
    let b : lent ≡ bytes = cc in
    let u : start ≡ used = cc in
    rw (b, u) stop
journals r (under n (offer id time size root path) ∷ calls) lent bytes start used e =
    let o = offered n r id time size root path in
    some_one r (final o.after calls) (answers o.after calls) n id time size root path lent bytes start used o.number refl e (λ l u f. journals o.after calls l bytes u used f)
journals r (under n (ask place page path) ∷ calls) lent bytes start used e =
    let o = asked n r place page path in
    asks ([], ([], tt)) n place (ref page) (ref path) o refl (journals o.after calls lent bytes start used e)

seven : Lfts 7
seven = ([], ([], ([], ([], ([], ([], ([], tt)))))))

pub whatever_claimed : WhateverGiven
unfolding ref mut_ref
whatever_claimed n page₁ place path₁ size root between page₂ path₂ pair =
    let d = dispute_by n page₁ place path₁ size root (heads_of between) page₂ path₂ (length pair) in
    rw (said_is (dispute_report d)) at
    (reports seven n place size (ref page₁) (ref path₁) (ref root) (ref between) (ref page₂) (ref path₂) (mut_ref pair) (mut_ref (pair_disputed d pair)) (said (dispute_report d)) (said_is (dispute_report d), refl))

pub demand3_claimed : Demand3
unfolding ref mut_ref
demand3_claimed calls before between rest n₁ n₂ place page₁ path₁ page₂ path₂ pair e long =
    let m = last_size 0 (heads (plain before)) in
    let r = last_root [] (heads (plain before)) in
    let h = joined_heads (heads (plain between)) in
    let d = dispute_by n₁ page₁ place path₁ m r (heads_of h) page₂ path₂ (length pair) in
    let run : Run empty_record (before ++ (under n₁ (answered (ask place page₁ path₁) 0) ∷ (between ++ (under n₂ (answered (ask place page₂ path₂) 0) ∷ rest)))) (final empty_record calls) = rw e at (runs empty_record calls) in
    rw (said_is (dispute_report d)) at
    (every empty_record (final empty_record calls) refl before between rest n₁ n₂ place (ref page₁) (ref path₁) (ref page₂) (ref path₂) run seven m (ref r) (ref h) (mut_ref pair) (mut_ref (pair_disputed d pair)) (said (dispute_report d))
    refl refl refl long (said_is (dispute_report d), refl))

pub kept_claimed : AsKept
unfolding ref mut_ref called
kept_claimed earlier between n₁ n₂ place page₁ path₁ page₂ path₂ lent bytes used pair a j b long =
    let held = final empty_record earlier in
    let first = asked n₁ held place page₁ path₁ in
    let held₂ = final first.after between in
    let d = dispute_by n₁ page₁ place path₁ held.size held.root (heads_of (take used bytes)) page₂ path₂ (length pair) in
    rw (said_is (dispute_report d)) at
    (every_kept empty_record held held₂ refl (answers empty_record earlier) (answers first.after between) n₁ n₂ place (ref page₁) (ref path₁) (ref page₂) (ref path₂) ([], ([], tt)) ([], ([], tt)) first (asked n₂ held₂ place page₂ path₂) lent bytes used
    (runs empty_record earlier) refl a (journals first.after between lent bytes 0 used j) refl b seven (ref held.root) (ref (take used bytes)) (mut_ref pair) (mut_ref (pair_disputed d pair)) (said (dispute_report d))
    refl refl long (said_is (dispute_report d), refl))
