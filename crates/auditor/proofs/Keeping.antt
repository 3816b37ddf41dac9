-- What a program keeps: a journal joins the heads that were accepted, a long enough one is never refused, and the third demand holds of the record's own
-- size and root and of the journal. Assumes nothing.
use mathlib.Core.Path.{◌≡◌, refl, sym, ap, ◌∙◌}
use mathlib.Core.Bool.{Bool, true, false, cond, not, ◌||◌}
use mathlib.Core.Logic.{⊎_elim}
use mathlib.Core.List.{List, [], ◌∷◌, ◌++◌, append_assoc, append-nil}
use Prim.Native.Nat.{ℕ, zero, suc, ◌+◌, ◌-◌, ◌*◌, ◌/◌, ◌%◌, ◌≤◌, ◌<◌}
use native.Mathlib.Omega.{arith}
use lib.Dec.{ltb, eqb}
use lib.ListN.{length, take, drop, length-append}
use lib.Seq.{take_at, drop_at, drop-drop, length-take-le}
use borrow.Author.Tests.{eqb-true, eqb-false}
use Rattle.hash.specs.Algorithm.{algorithm_of}
use Rattle.hash.specs.Digest.{hash_of}
use Rattle.tree.specs.Limits.{most_nodes}
use Rattle.tree.specs.Build.{Outcome, refused, wrote, into}
use Rattle.octets.proofs.Order.{lt_or_ge}
use Rattle.tree.proofs.Building.{short, long}
use Rattle.tree.proofs.Counting.{bounds}
use Rattle.tree.proofs.Accepting.{pass, consistency_accepted}
use Rattle.octets.specs.Numbers.{be}
use Rattle.octets.specs.Bytes.{put}
use Rattle.octets.proofs.Numbers.{be_length}
use Rattle.octets.proofs.Putting.{put_length}
use Rattle.auditor.specs.declared.Record.{Record}
use Rattle.auditor.specs.Held.{Held, empty, head, view, empty_record}
use Rattle.auditor.specs.Offer.{outside, first, by_record, offer_number}
use Rattle.auditor.specs.Page.{page_number}
use Rattle.auditor.specs.Heads.{Heads, end, then, last_size, last_root, joined_heads, heads_of, how_many}
use Rattle.auditor.specs.Journal.{most_count, append, append_report, journal_after}
use Rattle.auditor.specs.Calls.{Call, offer, ask, Entry, answered, Numbered, under, plain, called, entry, answers, final, paper_number, heads}
use Rattle.auditor.specs.Claims.{last_head}
use Rattle.auditor.specs.Dispute.{dispute_report, pair_disputed, dispute_by}
use Rattle.auditor.specs.Demand.{Settles, OfHash}
use Rattle.auditor.specs.Keeping.{kept, lost, noted, if_kept, journaled, Joins, JournalJoins, AppendedReadsBack, longest_head, LongEnough, AsKept}
use Rattle.auditor.proofs.Offering.{passed, taken, view_held, view_empty}
use Rattle.auditor.proofs.Numbering.{went}
use Rattle.auditor.proofs.Holding.{held_is_accepted}
use Rattle.auditor.proofs.Journaling.{one_head, head_length, root_short, path_long, path_part_lem, fits}
use Rattle.auditor.proofs.Reading.{heads_end, one_back}
use Rattle.auditor.proofs.Settling.{Agrees, agrees, demand3}

pub no_lost : (b : List ℕ) (u n : ℕ) → lost n ≡ kept b u → ⊥
no_lost b u n e = let y : ◌≡◌ {A = ℕ} 0 1 = cc in omega arith

-- one head in front of others
joined_then : (size : ℕ) (root path : List ℕ) (hs : Heads) → joined_heads (then size root path end) ++ joined_heads hs ≡ joined_heads (then size root path hs)
unfolding joined_heads
joined_then size root path hs = simp (append_assoc, append-nil)

-- a head has some bytes
some_bytes : (size : ℕ) (root path : List ℕ) → 1 ≤ length (joined_heads (then size root path end))
some_bytes size root path =
    let a = be_length 8 size in
    let b : length (joined_heads (then size root path end)) ≡ length (be 8 size) + length (root ++ (be 2 (length path / 32) ++ path)) = ap length (one_head size root path) ∙ length-append (be 8 size) _ in
    omega arith

-- ---- what an append that was not refused has written, and that there was room

no_write : (n : ℕ) (w : List ℕ) → refused n ≡ wrote w → ⊥
no_write n w e = let y : ◌≡◌ {A = ℕ} 0 1 = cc in omega arith

into_wrote : (room : ℕ) (x w : List ℕ) → into room x ≡ wrote w → (w ≡ x) × (length x ≤ room)
into_wrote room x w e =
    ⊎_elim (λ l. absurd (no_write 9 w (sym (short room x l) ∙ e))) (λ l. let i = long room x l in (cc, l)) (lt_or_ge room (length x))

wrote_head : (room used size : ℕ) (root path w : List ℕ) → append room used size root path ≡ wrote w → (w ≡ joined_heads (then size root path end)) × (used + length w ≤ room)
unfolding append
wrote_head room used size root path w e = one (not (eqb (length root) 32) || ltb (32 * most_count) (length path)) e
  where
    three : into (room - used) (joined_heads (then size root path end)) ≡ wrote w → (w ≡ joined_heads (then size root path end)) × (used + length w ≤ room)
    three f =
        let i = into_wrote (room - used) (joined_heads (then size root path end)) w f in
        let l = ap length i.0 in
        let s = some_bytes size root path in
        (i.0, omega arith)

    two : (b : Bool) → cond b (refused 10) (into (room - used) (joined_heads (then size root path end))) ≡ wrote w → (w ≡ joined_heads (then size root path end)) × (used + length w ≤ room)
    two true f = absurd (no_write 10 w f)
    two false f = three f

    one : (b : Bool) → cond b (refused 5) (cond (not (eqb (length path % 32) 0)) (refused 10) (into (room - used) (joined_heads (then size root path end)))) ≡ wrote w →
        (w ≡ joined_heads (then size root path end)) × (used + length w ≤ room)
    one true f = absurd (no_write 5 w f)
    one false f = two (not (eqb (length path % 32) 0)) f

-- such a head fits its fields
wrote_fits : (room used size : ℕ) (root path w : List ℕ) → append room used size root path ≡ wrote w → (length root ≡ 32) × (length path ≤ 32 * most_count) × (length path % 32 ≡ 0)
wrote_fits room used size root path w e =
    let r = root_32 (eqb (length root) 32) refl in
    let f = ⊎_elim (λ l. absurd (no_write 5 w (sym (path_long room used size root path r l) ∙ e))) (λ l. l) (lt_or_ge (32 * most_count) (length path)) in
    (r, f, whole r f (eqb (length path % 32) 0) refl)
  where
    root_32 : (b : Bool) → eqb (length root) 32 ≡ b → length root ≡ 32
    root_32 true q = eqb-true _ _ q
    root_32 false q = absurd (no_write 5 w (sym (root_short room used size root path (eqb-false _ _ q)) ∙ e))

    whole : length root ≡ 32 → length path ≤ 32 * most_count → (b : Bool) → eqb (length path % 32) 0 ≡ b → length path % 32 ≡ 0
    whole r f true q = eqb-true _ _ q
    whole r f false q = absurd (no_write 10 w (sym (path_part_lem room used size root path r f (eqb-false _ _ q)) ∙ e))

pub appended_back : AppendedReadsBack
unfolding joined_heads
appended_back room used size root path w small e =
    let f = wrote_fits room used size root path w e in
    let few : length path / 32 < 65536 = omega (arith, f.1) in
    ap heads_of (wrote_head room used size root path w e).0 ∙ one_back size root path [] small f.0 f.2 few ∙ ap (then size root path) (heads_end [] refl)

-- ---- the journal joins the accepted heads

put_parts : (b w : List ℕ) (u : ℕ) → u + length w ≤ length b → (take (u + length w) (put b u w) ≡ take u b ++ w) × (drop (u + length w) (put b u w) ≡ drop (u + length w) b)
put_parts b w u h =
    let t = length-take-le u b (omega arith) in
    let l : length (take u b ++ w) ≡ u + length w = length-append (take u b) w ∙ omega arith in
    let e : put b u w ≡ (take u b ++ w) ++ drop (u + length w) b = sym (append_assoc (take u b) w (drop (u + length w) b)) in
    (ap (take (u + length w)) e ∙ take_at (take u b ++ w) (drop (u + length w) b) (u + length w) l, ap (drop (u + length w)) e ∙ drop_at (take u b ++ w) (drop (u + length w) b) (u + length w) l)

one_more : (entries : List Entry) (id : List ℕ) (time size : ℕ) (root path lent bytes : List ℕ) (start used : ℕ) (o : Outcome) → append (length lent) start size root path ≡ o →
    if_kept (noted (journal_after start o lent) (append_report start o)) (journaled entries) ≡ kept bytes used →
    ((l : List ℕ) (s : ℕ) → journaled entries l s ≡ kept bytes used → Joins entries l bytes s used) → Joins (answered (offer id time size root path) 0 ∷ entries) lent bytes start used
unfolding journal_after append_report noted if_kept heads
one_more entries id time size root path lent bytes start used (refused n) q e i = absurd (no_lost bytes used n e)
one_more entries id time size root path lent bytes start used (wrote w) q e i =
    let j = i (put lent start w) (start + length w) e in
    let a = wrote_head (length lent) start size root path w q in
    let p = put_parts lent w start a.1 in
    let hs = heads entries in
    let t : w ++ joined_heads hs ≡ joined_heads (then size root path hs) = ap (λ (x : List ℕ). x ++ joined_heads hs) a.0 ∙ joined_then size root path hs in
    let k = length-append w (joined_heads hs) in
    let n = ap length t in
    let m = j.used_more in
    let u : used ≡ start + length w + length (joined_heads hs) = m in
    record {
      heads_joined = j.heads_joined ∙ ap (λ (x : List ℕ). x ++ joined_heads hs) p.0 ∙ append_assoc (take start lent) w (joined_heads hs) ∙ ap (λ (x : List ℕ). take start lent ++ x) t;
      used_more = omega arith;
      rest_stays = j.rest_stays ∙ past (start + length w) (length (joined_heads hs)) used (put lent start w) lent u p.1;
    }
  where
    past : (at more all : ℕ) (x y : List ℕ) → all ≡ at + more → drop at x ≡ drop at y → drop all x ≡ drop all y
    past at more all x y f g = ap (λ (i : ℕ). drop i x) f ∙ sym (drop-drop more at x) ∙ ap (drop more) g ∙ drop-drop more at y ∙ ap (λ (i : ℕ). drop i y) (sym f)

pub journal_joins : JournalJoins
unfolding journaled heads joined_heads
journal_joins [] lent bytes start used e =
    let b : lent ≡ bytes = cc in
    let u : start ≡ used = cc in
    rw (← b, ← u) (record { heads_joined = sym (append-nil (take start lent)); used_more = omega arith; rest_stays = refl })
journal_joins (answered (offer id time size root path) zero ∷ entries) lent bytes start used e =
    one_more entries id time size root path lent bytes start used (append (length lent) start size root path) refl e (λ l s f. journal_joins entries l bytes s used f)
journal_joins (answered (offer id time size root path) (suc n) ∷ entries) lent bytes start used e =
    let j = journal_joins entries lent bytes start used e in
    record { heads_joined = j.heads_joined; used_more = j.used_more; rest_stays = j.rest_stays }
journal_joins (answered (ask place page path) n ∷ entries) lent bytes start used e =
    let j = journal_joins entries lent bytes start used e in
    record { heads_joined = j.heads_joined; used_more = j.used_more; rest_stays = j.rest_stays }

-- ---- how long is long enough

-- an accepted head has a root of 32 bytes, and a path of no more nodes than the longest
record Short (root path : List ℕ) : Type 0 where
  root_32 : length root ≡ 32
  whole : length path % 32 ≡ 0
  few : length path ≤ 32 * (most_nodes + 1)

few_by : (H : List ℕ → List ℕ) (held : Held) (id : List ℕ) (time size : ℕ) (root path : List ℕ) → offer_number H held id time size root path ≡ 0 → length path ≤ 32 * (most_nodes + 1)
unfolding by_record first
few_by H empty id time size root path e = by_length (eqb (length path) 0) refl (pass (outside size) 5 _ (passed H empty id time size root path e).by_record_lem).1
  where
    by_length : (b : Bool) → eqb (length path) 0 ≡ b → ◌≡◌ {A = ℕ} (cond b 0 7) 0 → length path ≤ 32 * (most_nodes + 1)
    by_length true f g = let z = eqb-true (length path) 0 f in omega arith
    by_length false f g = absurd (omega arith)
few_by H (head id₀ time₀ size₀ root₀) id time size root path e =
    let c = consistency_accepted H size₀ size root₀ root path (taken H id₀ time₀ size₀ root₀ id time size root path e).consistent in
    let b = bounds.consistency_largest size₀ size c.some c.order c.in_range in
    let k = c.counted in
    omega arith

short_head : (H : List ℕ → List ℕ) (held : Held) (id : List ℕ) (time size : ℕ) (root path : List ℕ) → offer_number H held id time size root path ≡ 0 → Short root path
short_head H held id time size root path e =
    let p = passed H held id time size root path e in
    record { root_32 = p.root_32; whole = p.path_whole; few = few_by H held id time size root path e }

-- the rest is not refused, whatever number the first call answered
goes_on : (entries : List Entry) (id : List ℕ) (time size : ℕ) (root path lent : List ℕ) (start number : ℕ) → (number ≡ 0 → Short root path) →
    start + longest_head * how_many (heads (answered (offer id time size root path) number ∷ entries)) ≤ length lent →
    ((l : List ℕ) (s : ℕ) → s + longest_head * how_many (heads entries) ≤ length l → (n : ℕ) → journaled entries l s ≡ lost n → ⊥) →
    (n : ℕ) → journaled (answered (offer id time size root path) number ∷ entries) lent start ≡ lost n → ⊥
unfolding heads how_many journaled journal_after append_report noted if_kept
goes_on entries id time size root path lent start zero s h i n e =
    let a = s refl in
    let f = a.few in
    let k = head_length size root path a.root_32 in
    let w = joined_heads (then size root path end) in
    let o = fits (length lent) start size root path a.root_32 (omega arith) a.whole (omega arith) in
    let l = put_length lent w start (omega arith) in
    i (put lent start w) (start + length w) (omega arith) n (rw o at e)
goes_on entries id time size root path lent start (suc number) s h i n e = i lent start h n e

pub long_enough : LongEnough
unfolding answers entry plain journaled heads how_many paper_number
long_enough r [] lent start h n e = no_lost lent start n (sym e)
long_enough r (under m (offer id time size root path) ∷ calls) lent start h n e =
    let o = called r (under m (offer id time size root path)) in
    goes_on (plain (answers o.after calls)) id time size root path lent start o.number
    (λ z. let g = went r m (offer id time size root path) z in short_head (hash_of g.by) (view r) id time size root path g.accepts) h
    (λ l s g. long_enough o.after calls l s g) n e
long_enough r (under m (ask place page path) ∷ calls) lent start h n e = long_enough (called r (under m (ask place page path))).after calls lent start h n e

-- ---- the third demand of what is kept

answers_append : (r : Record) (xs ys : List (Numbered Call)) → answers r (xs ++ ys) ≡ answers r xs ++ answers (final r xs) ys
unfolding answers final
answers_append r [] ys = refl
answers_append r (c ∷ xs) ys = ap (λ (es : List (Numbered Entry)). entry c (called r c).number ∷ es) (answers_append (called r c).after xs ys)

-- a record under which a page was accepted holds the size and root of the last accepted head
agreed : (H : List ℕ → List ℕ) (r : Record) (place : ℕ) (page path : List ℕ) (held : Held) (m : ℕ) (s : List ℕ) → view r ≡ held → Agrees held m s → page_number H (view r) place page path ≡ 0 → (r.size ≡ m) × (r.root ≡ s)
unfolding Agrees page_number
agreed H r place page path held m s v a e = go r.held refl
  where
    go : (b : Bool) → r.held ≡ b → (r.size ≡ m) × (r.root ≡ s)
    go true t = rw (sym v ∙ view_held r t) at a
    go false t = absurd (fourteen (rw (view_empty r t) at e))
      where
        fourteen : ◌≡◌ {A = ℕ} 14 0 → ⊥
        fourteen z = omega arith

-- a dispute by this number over this size, this root and these joined heads settles two pages
abbrev SettledBy : ℕ → List ℕ → ℕ → List ℕ → List ℕ → List ℕ → List ℕ → ℕ → List ℕ → List ℕ → Type 0
SettledBy n page₁ place path₁ page₂ path₂ pair size root joined =
    (let d = dispute_by n page₁ place path₁ size root (heads_of joined) page₂ path₂ (length pair) in
    OfHash (algorithm_of n) (λ H. Settles H page₁ page₂ (dispute_report d) (pair_disputed d pair)))

settles_by : (n : ℕ) (page₁ : List ℕ) (place : ℕ) (path₁ page₂ path₂ pair : List ℕ) (k l : ℕ) (r s h j : List ℕ) → k ≡ l → r ≡ s → h ≡ j →
    SettledBy n page₁ place path₁ page₂ path₂ pair l s j → SettledBy n page₁ place path₁ page₂ path₂ pair k r h
settles_by n page₁ place path₁ page₂ path₂ pair k l r s h j e f g w = rw (e, f, g) w

pub as_kept : AsKept
unfolding answers entry Agrees paper_number
as_kept earlier between n₁ n₂ place page₁ path₁ page₂ path₂ lent bytes used pair a j b enough =
    let held = final empty_record earlier in
    let before = answers empty_record earlier in
    let c₁ = under n₁ (ask place page₁ path₁) in
    let c₂ = under n₂ (ask place page₂ path₂) in
    let next = (called held c₁).after in
    let since = answers next between in
    let calls = earlier ++ (c₁ ∷ (between ++ (c₂ ∷ []))) in
    let e : answers empty_record calls ≡ before ++ (under n₁ (answered (ask place page₁ path₁) 0) ∷ (since ++ (under n₂ (answered (ask place page₂ path₂) 0) ∷ []))) =
    answers_append empty_record earlier (c₁ ∷ (between ++ (c₂ ∷ [])))
    ∙ rw (a, answers_append next between (c₂ ∷ []), b) in
    let g = went held n₁ (ask place page₁ path₁) a in
    let h = agreed (hash_of g.by) held place page₁ path₁ (last_head empty (plain before)) (last_size 0 (heads (plain before))) (last_root [] (heads (plain before))) (held_is_accepted earlier).0
    (agrees (plain before) empty 0 [] tt) g.accepts in
    let d = demand3 calls before since [] n₁ n₂ place page₁ path₁ page₂ path₂ pair e enough in (
      d.0,
      settles_by n₁ page₁ place path₁ page₂ path₂ pair held.size (last_size 0 (heads (plain before))) held.root (last_root [] (heads (plain before))) (take used bytes) (joined_heads (heads (plain since)))
          h.0 h.1 (journal_joins (plain since) lent bytes 0 used j).heads_joined d.1,
    )
