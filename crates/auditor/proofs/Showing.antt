-- What stands in the second place is evidence: a refused offer against the head then held, over any hash, and over every list of calls. Assumes nothing.
use mathlib.Core.Bool.{Bool, true, false, false≢true, cond, not, ◌&&◌, ◌||◌}
use mathlib.Core.Path.{◌≡◌, refl, sym, ap, ap₂, subst, ◌∙◌}
use mathlib.Core.Logic.{◌⊎◌, inl, inr}
use mathlib.Core.List.{List, [], ◌∷◌, ◌++◌, map}
use Prim.Native.Nat.{ℕ, ◌%◌, ◌≤◌, ◌<◌}
use native.Mathlib.Omega.{arith}
use lib.Dec.{ltb, eqb}
use lib.ListN.{length}
use borrow.Author.Tests.{eqb-true, eqb-false, eq-eqb, ltb-true, ltb-false, not-true, not-false}
use Rattle.hash.specs.declared.Named.{Named}
use Rattle.hash.specs.declared.Named.TheVariants.{By, Unknown}
use Rattle.hash.specs.Algorithm.{number_of}
use Rattle.hash.specs.Digest.{hash_of}
use Rattle.octets.specs.Bytes.{same}
use Rattle.octets.proofs.Sameness.{same_true, same_of}
use Rattle.tree.specs.Limits.{largest_size}
use Rattle.tree.specs.Verdict.{consistency_verdict}
use Rattle.tree.proofs.Answering.{at_most_10}
use Rattle.auditor.specs.declared.Record.{Record}
use Rattle.auditor.specs.declared.Answered.{Answered}
use Rattle.auditor.specs.Held.{Held, empty, head, view, choice, empty_record}
use Rattle.auditor.specs.Second.{Second, none, refused_head, second, other_root, is_evidence}
use Rattle.auditor.specs.Offer.{outside, first, stale, against, by_record, offer_number, kept}
use Rattle.auditor.specs.Calls.{Call, offer, ask, Entry, answered, Numbered, under, plain, called, entry, answers, final, paper_number, paper_after, run}
use Rattle.auditor.specs.Claims.{last_head}
use Rattle.auditor.specs.Evidence.{refused_heads, last_or, Shows, another_root, another_root_no_later, larger_size, Evident, KeptIsEvidence, HonestLeavesNone}
use Rattle.auditor.proofs.Offering.{or_false, past, fresh, Number, evident, evident_passed}
use Rattle.auditor.proofs.Numbering.{called_by_lem, called_16}
use Rattle.auditor.proofs.Holding.{last_of, view_none}
use Rattle.auditor.proofs.Refusing.{page_stays, left, latest_refused}
use Rattle.auditor.proofs.Serving.{honest_log}
use Rattle.auditor.proofs.Timestamps.{one_size}

and_true : (a b : Bool) → (a && b) ≡ true → (a ≡ true) × (b ≡ true)
and_true true b e = (refl, e)
and_true false b e = absurd (false≢true e)

or_true : (a b : Bool) → (a || b) ≡ true → (a ≡ true) ⊎ (b ≡ true)
or_true true b e = inl refl
or_true false b e = inr e

below : (a b : ℕ) → a ≤ b → (a ≡ b → ⊥) → a < b
below a b le ne = omega arith

-- ---- one offer

-- no first head has such a number
first_most : (a b : Bool) → cond a 6 (cond b 0 7) ≤ 7
first_most true b = omega arith
first_most false true = omega arith
first_most false false = omega arith

above : (held : Held) (n size : ℕ) (root : List ℕ) → is_evidence held n size root ≡ true → 8 ≤ n
above held n size root f = go (evident held n size root f)
  where
    go : Number held n size root → 8 ≤ n
    go (inl q) = omega arith
    go (inr (inl q)) = omega arith
    go (inr (inr q)) = omega (arith, q.0)

module _ (H : List ℕ → List ℕ) (time₀ size₀ : ℕ) (root₀ : List ℕ) (time size : ℕ) (root path : List ℕ) where
  -- a head of the size held, with another root
  other : Bool
  other = eqb size size₀ && not (same root root₀)

  other_true : other ≡ true → (size₀ ≡ size) × (root₀ ≡ root → ⊥)
  unfolding other
  other_true e =
      let a = and_true (eqb size size₀) (not (same root root₀)) e in
      (sym (eqb-true size size₀ a.0), λ q. false≢true (sym (not-true (same root root₀) a.1) ∙ same_of root root₀ (sym q)))

  other_false : other ≡ false → size₀ ≡ size → root₀ ≡ root
  unfolding other
  other_false e q = sym (same_true root root₀ (not-false (same root root₀) (rw (eq-eqb size size₀ (sym q)) at e)))

  -- the tests after 11 and 6
  Tests : ℕ → Type 0
  Tests n = cond (stale time₀ size₀ root₀ time size root) 12 (cond other 13 (consistency_verdict H size₀ size root₀ root path)) ≡ n

  shows_12 : Tests 12 → other ≡ true → Shows time₀ size₀ root₀ time size root 12
  unfolding Tests stale
  shows_12 e o = go (stale time₀ size₀ root₀ time size root) refl
    where
      go : (b : Bool) → stale time₀ size₀ root₀ time size root ≡ b → Shows time₀ size₀ root₀ time size root 12
      go true s = let x = other_true o in another_root_no_later (no_later (or_true (ltb time time₀) _ s)) x.0 x.1
        where
          no_later : (ltb time time₀ ≡ true) ⊎ ((eqb time time₀ && (not (eqb size size₀) || not (same root root₀))) ≡ true) → time ≤ time₀
          no_later (inl t) = let l = ltb-true time time₀ t in omega arith
          no_later (inr t) = let l = eqb-true time time₀ (and_true (eqb time time₀) _ t).0 in omega arith
      go false s = absurd (thirteen (sym (rw (s, o) at e)))
        where
          thirteen : ◌≡◌ {A = ℕ} 12 13 → ⊥
          thirteen q = omega arith

  shows_13 : Tests 13 → Shows time₀ size₀ root₀ time size root 13
  unfolding Tests consistency_verdict
  shows_13 e = go other refl
    where
      p : (stale time₀ size₀ root₀ time size root ≡ false) × (cond other 13 (consistency_verdict H size₀ size root₀ root path) ≡ 13)
      p = past (stale time₀ size₀ root₀ time size root) 12 _ 13 (λ q. omega arith) e

      go : (b : Bool) → other ≡ b → Shows time₀ size₀ root₀ time size root 13
      go true o =
          let x = other_true o in
          let f = fresh time₀ size₀ root₀ time size root p.0 in
          another_root (below time₀ time f.0 (λ q. x.1 (f.1 q).1)) x.0 x.1
      go false o = absurd (most (at_most_10 root₀ root path _ _ _) (rw o at p.1))
        where
          most : consistency_verdict H size₀ size root₀ root path ≤ 10 → consistency_verdict H size₀ size root₀ root path ≡ 13 → ⊥
          most le q = omega arith

  shows_8 : 0 < size → size ≤ largest_size → size₀ ≤ size → length root ≡ 32 → length path % 32 ≡ 0 → Tests 8 → Shows time₀ size₀ root₀ time size root 8
  unfolding Tests
  shows_8 some most le root_32 whole e =
      let p = past (stale time₀ size₀ root₀ time size root) 12 _ 8 (λ q. omega arith) e in
      let o = past other 13 _ 8 (λ q. omega arith) p.1 in
      let f = fresh time₀ size₀ root₀ time size root p.0 in
      let larger = below size₀ size le (λ q. seven (eqb (length path) 0) (sym (one_size H size root path some most root_32 whole) ∙ same_head q (other_false o.0 q) ∙ o.1)) in
      larger_size (below time₀ time f.0 (λ q. omega (arith, (f.1 q).0, larger))) larger
    where
      same_head : size₀ ≡ size → root₀ ≡ root → consistency_verdict H size size root root path ≡ consistency_verdict H size₀ size root₀ root path
      same_head q r = rw (q, r) refl

      seven : (b : Bool) → ◌≡◌ {A = ℕ} (cond b 0 7) 8 → ⊥
      seven true q = omega arith
      seven false q = omega arith

-- a refused head that is evidence, against what is held
record Shown (held : Held) (n : ℕ) (id : List ℕ) (time size : ℕ) (root : List ℕ) : Type 0 where
  time₀ : ℕ
  size₀ : ℕ
  root₀ : List ℕ
  is_held : held ≡ head id time₀ size₀ root₀
  shows : Shows time₀ size₀ root₀ time size root n

shown : (H : List ℕ → List ℕ) (held : Held) (id : List ℕ) (time size : ℕ) (root path : List ℕ) (n : ℕ) → n ≡ offer_number H held id time size root path →
    is_evidence held n size root ≡ true → Shown held n id time size root
unfolding by_record first against Tests other other_root outside
shown H empty id time size root path n e f =
    let p = evident_passed H empty id time size root path n f (sym e) in
    absurd (no (above empty n size root f) (first_most (outside size) (eqb (length path) 0)) p.by_record_lem)
  where
    no : 8 ≤ n → first size path ≤ 7 → first size path ≡ n → ⊥
    no a b c = omega arith
shown H (head id₀ time₀ size₀ root₀) id time size root path n e f =
    let p = evident_passed H (head id₀ time₀ size₀ root₀) id time size root path n f (sym e) in
    let l = above (head id₀ time₀ size₀ root₀) n size root f in
    let a = past (not (same id₀ id)) 11 _ n (not_11 (evident (head id₀ time₀ size₀ root₀) n size root f)) p.by_record_lem in
    let b = past (outside size || ltb size size₀) 6 _ n (λ q. omega arith) a.1 in
    let c = or_false (outside size) (ltb size size₀) b.0 in
    let d = or_false (eqb size 0) (ltb largest_size size) c.0 in
    let z = eqb-false size 0 d.0 in
    record {
      time₀ = time₀;
      size₀ = size₀;
      root₀ = root₀;
      is_held = rw (same_true id₀ id (not-false _ a.0));
      shows = by_number (omega arith) (ltb-false largest_size size d.1) (ltb-false size size₀ c.1) p.root_32 p.path_whole b.1 (evident (head id₀ time₀ size₀ root₀) n size root f);
    }
  where
    not_11 : Number (head id₀ time₀ size₀ root₀) n size root → n ≡ 11 → ⊥
    not_11 (inl q) r = omega arith
    not_11 (inr (inl q)) r = omega arith
    not_11 (inr (inr q)) r = omega (arith, q.0)

    by_number : 0 < size → size ≤ largest_size → size₀ ≤ size → length root ≡ 32 → length path % 32 ≡ 0 → Tests H time₀ size₀ root₀ time size root path n →
        Number (head id₀ time₀ size₀ root₀) n size root → Shows time₀ size₀ root₀ time size root n
    by_number some most le root_32 whole t (inl q) =
        subst (Shows time₀ size₀ root₀ time size root) (sym q) (shows_8 H time₀ size₀ root₀ time size root path some most le root_32 whole (t ∙ q))
    by_number some most le root_32 whole t (inr (inl q)) = subst (Shows time₀ size₀ root₀ time size root) (sym q) (shows_13 H time₀ size₀ root₀ time size root path (t ∙ q))
    by_number some most le root_32 whole t (inr (inr q)) =
        subst (Shows time₀ size₀ root₀ time size root) (sym q.0) (shows_12 H time₀ size₀ root₀ time size root path (t ∙ q.0) q.1)

-- ---- every list

-- each refused head of some entries that is evidence shows it, where this head is held before them
All : Held → List Entry → Type 0
All held [] = Unit {0}
All held (answered (offer id time size root path) n ∷ es) = (is_evidence held n size root ≡ true → Shown held n id time size root) × All (kept held id time size root n) es
All held (answered (ask place page path) n ∷ es) = All held es

all_of_run : (H : List ℕ → List ℕ) (calls : List Call) (held : Held) → All held (run H held calls)
unfolding All run paper_number paper_after
all_of_run H [] held = tt
all_of_run H (offer id time size root path ∷ calls) held =
    let n = offer_number H held id time size root path in
    (shown H held id time size root path n refl, all_of_run H calls (kept held id time size root n))
all_of_run H (ask place page path ∷ calls) held = all_of_run H calls held

-- the code's answer of an offer
shown_called : (r : Record) (n : ℕ) (id : List ℕ) (time size : ℕ) (root path : List ℕ) →
    is_evidence (view r) (called r (under n (offer id time size root path))).number size root ≡ true →
    Shown (view r) (called r (under n (offer id time size root path))).number id time size root
unfolding paper_number is_evidence
shown_called r n id time size root path f = go (choice r n) refl
  where
    c : Call
    c = offer id time size root path

    go : (m : Named) → choice r n ≡ m → Shown (view r) (called r (under n c)).number id time size root
    go (By a) e = shown (hash_of a) (view r) id time size root path _ (ap (λ (o : Answered). o.number) (called_by_lem a r n c e)) f
    go Unknown e = absurd (false≢true (rw (called_16 r n c e) at f))

all_of_calls : (calls : List (Numbered Call)) (r : Record) → All (view r) (plain (answers r calls))
unfolding All answers entry plain
all_of_calls [] r = tt
all_of_calls (under n (offer id time size root path) ∷ calls) r =
    let o = called r (under n (offer id time size root path)) in
    (shown_called r n id time size root path, subst (λ (v : Held). All v (plain (answers o.after calls))) (left r n id time size root path).first (all_of_calls calls o.after))
all_of_calls (under n (ask place page path) ∷ calls) r =
    let s = (called r (under n (ask place page path))).after in
    subst (λ (v : Held). All v (plain (answers s calls))) (ap view (page_stays r n place page path)) (all_of_calls calls s)

-- it stands among some entries, where this head is held before them
record Among (held : Held) (es : List Entry) (number : ℕ) (id : List ℕ) (time size : ℕ) (root : List ℕ) : Type 0 where
  before : List Entry
  rest : List Entry
  path : List ℕ
  was_offered : es ≡ before ++ (answered (offer id time size root path) number ∷ rest)
  was_shown : Shown (last_head held before) number id time size root

-- one entry in front
after_one : (held : Held) (c : Call) (n : ℕ) (es : List Entry) (number : ℕ) (id : List ℕ) (time size : ℕ) (root : List ℕ) →
    Among (paper_after (λ (x : List ℕ). x) held c n) es number id time size root → Among held (answered c n ∷ es) number id time size root
after_one held c n es number id time size root w =
    record {
      before = answered c n ∷ w.before;
      rest = w.rest;
      path = w.path;
      was_offered = ap (λ (l : List Entry). answered c n ∷ l) w.was_offered;
      was_shown = subst (λ (v : Held). Shown v number id time size root) (last_of (λ (x : List ℕ). x) held c n w.before) w.was_shown;
    }

module _ (number : ℕ) (id : List ℕ) (time size : ℕ) (root : List ℕ) where
  Is : Second → Type 0
  Is s = s ≡ refused_head number id time size root

  -- the entry itself
  itself : (held : Held) (es : List Entry) (n : ℕ) (id₁ : List ℕ) (time₁ size₁ : ℕ) (root₁ path : List ℕ) → Shown held n id₁ time₁ size₁ root₁ →
      refused_head n id₁ time₁ size₁ root₁ ≡ refused_head number id time size root → Among held (answered (offer id₁ time₁ size₁ root₁ path) n ∷ es) number id time size root
  unfolding last_head
  itself held es n id₁ time₁ size₁ root₁ path w e =
      let a : n ≡ number = cc in
      let b : id₁ ≡ id = cc in
      let c : time₁ ≡ time = cc in
      let d : size₁ ≡ size = cc in
      let f : root₁ ≡ root = cc in
      record { before = []; rest = es; path = path; was_offered = rw (a, b, c, d, f) refl; was_shown = rw (← a, ← b, ← c, ← d, ← f) w }

  -- of some entries, with what stood there before them
  Told : List Entry → Type 0
  Told es = (held : Held) (s : Second) → All held es → Is (last_or s (refused_heads held es)) → Is s ⊎ Among held es number id time size root

  later : (c : Call) (n : ℕ) (es : List Entry) (held : Held) (s : Second) → Is s ⊎ Among (paper_after (λ (x : List ℕ). x) held c n) es number id time size root →
      Is s ⊎ Among held (answered c n ∷ es) number id time size root
  later c n es held s (inl q) = inl q
  later c n es held s (inr q) = inr (after_one held c n es number id time size root q)

  told_offer : (id₁ : List ℕ) (time₁ size₁ : ℕ) (root₁ path : List ℕ) (n : ℕ) (es : List Entry) → Told es → Told (answered (offer id₁ time₁ size₁ root₁ path) n ∷ es)
  unfolding Told All Is refused_heads last_or paper_after
  told_offer id₁ time₁ size₁ root₁ path n es i held s w e = go (is_evidence held n size₁ root₁) refl
    where
      c : Call
      c = offer id₁ time₁ size₁ root₁ path

      next : Held
      next = kept held id₁ time₁ size₁ root₁ n

      was_kept : Shown held n id₁ time₁ size₁ root₁ → Is (refused_head n id₁ time₁ size₁ root₁) ⊎ Among next es number id time size root → Is s ⊎ Among held (answered c n ∷ es) number id time size root
      was_kept v (inl q) = inr (itself held es n id₁ time₁ size₁ root₁ path v q)
      was_kept v (inr q) = inr (after_one held c n es number id time size root q)

      go : (b : Bool) → is_evidence held n size₁ root₁ ≡ b → Is s ⊎ Among held (answered c n ∷ es) number id time size root
      go true f = was_kept (w.0 f) (i next (refused_head n id₁ time₁ size₁ root₁) w.1 (rw f at e))
      go false f = later c n es held s (i next s w.1 (rw f at e))

  told : (es : List Entry) → Told es
  unfolding Told All Is refused_heads last_or paper_after
  told [] held s w e = inl e
  told (answered (ask place page path) n ∷ es) held s w e = later (ask place page path) n es held s (told es held s w e)
  told (answered (offer id₁ time₁ size₁ root₁ path) n ∷ es) held s w e = told_offer id₁ time₁ size₁ root₁ path n es (told es) held s w e

not_none : (number : ℕ) (id : List ℕ) (time size : ℕ) (root : List ℕ) → none ≡ refused_head number id time size root → ⊥
not_none number id time size root e = let y : ◌≡◌ {A = ℕ} 0 1 = cc in omega arith

evident_among : (es : List Entry) (number : ℕ) (id : List ℕ) (time size : ℕ) (root : List ℕ) → All empty es → last_or none (refused_heads empty es) ≡ refused_head number id time size root →
    Evident es number id time size root
unfolding Told Is
evident_among es number id time size root w e = go (told number id time size root es empty none w e)
  where
    go : (none ≡ refused_head number id time size root) ⊎ Among empty es number id time size root → Evident es number id time size root
    go (inl q) = absurd (not_none number id time size root q)
    go (inr a) =
        let v = a.was_shown in
        record {
          before = a.before;
          rest = a.rest;
          path = a.path;
          was_offered = a.was_offered;
          time₀ = v.time₀;
          size₀ = v.size₀;
          root₀ = v.root₀;
          was_held = v.is_held;
          shows = v.shows;
        }

pub kept_is_evidence : KeptIsEvidence
kept_is_evidence = (of_run, of_code)
  where
    of_run : (H : List ℕ → List ℕ) (calls : List Call) (number : ℕ) (id : List ℕ) (time size : ℕ) (root : List ℕ) →
        last_or none (refused_heads empty (run H empty calls)) ≡ refused_head number id time size root → Evident (run H empty calls) number id time size root
    of_run H calls number id time size root e = evident_among (run H empty calls) number id time size root (all_of_run H calls empty) e

    of_code : (calls : List (Numbered Call)) (number : ℕ) (id : List ℕ) (time size : ℕ) (root : List ℕ) →
        second (final empty_record calls) ≡ refused_head number id time size root → Evident (plain (answers empty_record calls)) number id time size root
    of_code calls number id time size root e =
        let es = plain (answers empty_record calls) in
        evident_among es number id time size root (subst (λ (v : Held). All v es) view_none (all_of_calls calls empty_record))
        (sym (ap₂ (λ (s : Second) (v : Held). last_or s (refused_heads v es)) latest_refused.1 view_none) ∙ sym (latest_refused.0 empty_record calls) ∙ e)

-- calls that were all accepted leave none
none_refused : (n : ℕ) (calls : List Call) (held : Held) → refused_heads held (plain (map (λ (c : Call). under n (answered c 0)) calls)) ≡ []
unfolding refused_heads plain is_evidence kept
none_refused n [] held = refl
none_refused n (offer id time size root path ∷ calls) held = none_refused n calls (head id time size root)
none_refused n (ask place page path ∷ calls) held = none_refused n calls held

pub honest_leaves_none : HonestLeavesNone
unfolding last_or
honest_leaves_none a id pages calls least most in_range short served =
    let n = number_of a in
    let all = (honest_log a id pages calls least most in_range short served).accepted in
    latest_refused.0 empty_record (map (under n) calls)
    ∙ ap (λ (es : List (Numbered Entry)). last_or (second empty_record) (refused_heads (view empty_record) (plain es))) all
    ∙ ap (λ (l : List Second). last_or (second empty_record) l) (none_refused n calls (view empty_record))
    ∙ latest_refused.1
