-- An honest log: all that it serves is accepted, and a dispute about two of its pages says that they are the same. Assumes nothing.
use mathlib.Core.Path.{◌≡◌, refl, sym, ap, ap₂, ◌∙◌}
use mathlib.Core.Bool.{Bool, true, false, not, ◌&&◌, ◌||◌}
use mathlib.Core.Logic.{◌⊎◌, inl, inr}
use mathlib.Core.List.{List, [], ◌∷◌, ◌++◌, map}
use Prim.Native.Nat.{ℕ, zero, suc, ◌*◌, ◌%◌, ◌≤◌, ◌<◌}
use native.Mathlib.Omega.{arith}
use lib.Dec.{eqb}
use lib.ListN.{length, take, drop, get_or, length-take, length-map, take-append-drop}
use lib.Seq.{take_at, take-take, get_or-take}
use borrow.Author.Tests.{le-ltb, eq-eqb, ne_eqb, eqb-true}
use Rattle.hash.specs.declared.Algorithm.{Algorithm}
use Rattle.hash.specs.declared.Named.TheVariants.{By}
use Rattle.hash.specs.Algorithm.{number_of, algorithm_of}
use Rattle.hash.specs.Digest.{hash_of}
use Rattle.octets.specs.Limits.{most_item}
use Rattle.hash.proofs.Promises.{hash_length, numbers}
use Rattle.hash.proofs.Algorithms.{by_known}
use Rattle.tree.specs.Limits.{largest_size}
use Rattle.tree.specs.Tree.{leaf, root, path, consistency}
use Rattle.octets.specs.Bytes.{same, joined}
use Rattle.tree.specs.Joined.{nodes}
use Rattle.tree.specs.Verdict.{unless, inclusion_verdict, consistency_verdict}
use Rattle.octets.proofs.Sameness.{same_refl, same_of}
use Rattle.octets.proofs.Joining.{joined_append}
use Rattle.tree.proofs.Joining.{All32, all_take, all_nodes, nodes_joined, joined_length}
use Rattle.tree.proofs.Counting.{bounds}
use Rattle.tree.proofs.Completing.{root_32}
use Rattle.tree.proofs.Accepting.{inclusion_accepted, consistency_accepted}
use Rattle.carry.specs.Limits.{pair_bytes}
use Rattle.carry.specs.Forward.{carried, carry}
use Rattle.carry.specs.Compare.{compare}
use Rattle.carry.proofs.Comparing.{comparing}
use Rattle.carry.proofs.Honest.{own_inclusion, own_consistency, own_carried}
use Rattle.octets.specs.Answer.{Answer}
use Rattle.auditor.specs.Held.{Held, empty, head, empty_record}
use Rattle.auditor.specs.Offer.{outside, first, against, by_record, offer_number, kept}
use Rattle.auditor.specs.Page.{page_number}
use Rattle.auditor.specs.Heads.{Heads, last_size, last_root, joined_heads, heads_of}
use Rattle.auditor.specs.Dispute.{Finding, alike, longest_path, Ruling, dispute_report, onward, settled, follow, dispute, dispute_by}
use Rattle.auditor.specs.Calls.{Call, offer, ask, Entry, answered, Numbered, under, plain, answers, paper_number, paper_after, run, heads}
use Rattle.growing.proofs.Calling.{follows_all}
use Rattle.auditor.specs.Claims.{leaves, Served, HonestLog, GrownHeads}
use Rattle.auditor.proofs.Offering.{as_earlier}
use Rattle.auditor.proofs.Reading.{read_back}
use Rattle.auditor.proofs.Numbering.{free_choice, holds_nothing, plain_append, all_own}
use Rattle.auditor.proofs.Holding.{view_none, heads_fit}

-- ---- what is accepted

inside : (n : ℕ) → 0 < n → n ≤ largest_size → outside n ≡ false
unfolding outside
inside n some most = ap₂ ◌||◌ (ne_eqb n 0 (λ e. omega arith)) (le-ltb largest_size n most)

same_size : (n m : ℕ) (s r : List ℕ) → (n ≡ m → s ≡ r) → (eqb n m && not (same s r)) ≡ false
same_size n m s r h = go (eqb n m) refl
  where
    go : (b : Bool) → eqb n m ≡ b → (b && not (same s r)) ≡ false
    go true e = rw (same_of s r (h (eqb-true n m e)))
    go false e = refl

module _ (H : List ℕ → List ℕ) (id : List ℕ) (least : 2 ≤ length id) (most : length id ≤ 127) (time n : ℕ) (s : List ℕ) (s_32 : length s ≡ 32) (some : 0 < n) (in_range : n ≤ largest_size) where
  takes_first : offer_number H empty id time n s [] ≡ 0
  unfolding offer_number by_record first
  takes_first =
      rw (eq-eqb (length s) 32 s_32, le-ltb (length id) 2 least, le-ltb 127 (length id) most, inside n some in_range)

  -- a later head with a fresh timestamp is left to the verdict
  pub takes_later : (t m : ℕ) (r proof : List ℕ) → length proof % 32 ≡ 0 → m ≤ n → t ≤ time → (t ≡ time → (m ≡ n) × (r ≡ s)) → (n ≡ m → s ≡ r) → offer_number H (head id t m r) id time n s proof ≡ consistency_verdict H m n r s proof
  unfolding offer_number by_record against
  takes_later t m r proof whole le since one_time one =
      rw (eq-eqb (length s) 32 s_32, le-ltb (length id) 2 least, le-ltb 127 (length id) most, eq-eqb (length proof % 32) 0 whole, same_refl id, inside n some in_range, le-ltb n m le, as_earlier t m r time n s one_time, le-ltb time t since, same_size n m s r one)

takes_page : (H : List ℕ → List ℕ) (id : List ℕ) (t m : ℕ) (r : List ℕ) (place : ℕ) (item proof : List ℕ) → length item ≤ most_item → inclusion_verdict H (H (0 ∷ item)) place m r proof ≡ 0 → page_number H (head id t m r) place item proof ≡ 0
unfolding page_number
takes_page H id t m r place item proof l v = rw (le-ltb most_item (length item) l) v

-- a later timestamp, or the head held again
module _ {t time m n : ℕ} where
  no_earlier : (t < time) ⊎ ((t ≡ time) × (m ≡ n)) → t ≤ time
  no_earlier (inl l) = omega arith
  no_earlier (inr k) = omega (arith, k.0)

  again : (t < time) ⊎ ((t ≡ time) × (m ≡ n)) → t ≡ time → m ≡ n
  again (inl l) q = absurd (omega arith)
  again (inr k) q = k.1

-- one accepted call, and what follows it
goes_on : (H : List ℕ → List ℕ) (c : Call) (held held₂ : Held) (calls : List Call) (es : List Entry) → paper_number H held c ≡ 0 → paper_after H held c 0 ≡ held₂ → run H held₂ calls ≡ es → run H held (c ∷ calls) ≡ answered c 0 ∷ es
unfolding run
goes_on H c held held₂ calls es e d f = rw (e, d, f)

-- ---- the leaf hashes of the first pages

all_leaves : (H : List ℕ → List ℕ) → ((s : List ℕ) → length (H s) ≡ 32) → (l : List (List ℕ)) → All32 (map (leaf H) l)
unfolding All32 leaf
all_leaves H H32 [] = tt
all_leaves H H32 (d ∷ l) = (H32 (0 ∷ d), all_leaves H H32 l)

leaf_at : (H : List ℕ → List ℕ) (l : List (List ℕ)) (i : ℕ) → i < length l → get_or (map (leaf H) l) i [] ≡ H (0 ∷ get_or l i [])
unfolding leaf
leaf_at H [] i h = absurd (omega arith)
leaf_at H (d ∷ l) zero h = refl
leaf_at H (d ∷ l) (suc i) h = leaf_at H l i (omega arith)

taken_joined : (n : ℕ) (l : List (List ℕ)) → All32 l → n ≤ length l → take (32 * n) (joined l) ≡ joined (take n l)
taken_joined n l a h =
    let e : joined l ≡ joined (take n l) ++ joined (drop n l) = ap joined (sym (take-append-drop n l)) ∙ joined_append (take n l) (drop n l) in
    let k = joined_length (take n l) (all_take n l a) in
    let i : length (take n l) ≡ n = simp length-take (omega arith) in
    ap (take (32 * n)) e ∙ take_at (joined (take n l)) (joined (drop n l)) (32 * n) (omega arith)

module _ (H : List ℕ → List ℕ) (H32 : (s : List ℕ) → length (H s) ≡ 32) (id : List ℕ) (pages : List (List ℕ)) (all : length pages ≤ largest_size) where
  abbrev hashes : List (List ℕ)
  hashes = map (leaf H) pages

  -- the root of the first n, and the path of a place among them
  root_at : ℕ → List ℕ
  root_at n = root H (nodes (leaves H id pages n))

  own : ℕ → ℕ → List ℕ
  own n place = joined (path H place (nodes (leaves H id pages n)))

  -- and from the first m to the first n
  since : ℕ → ℕ → List ℕ
  since m n = joined (consistency H m (nodes (leaves H id pages n)))

  root_at_32 : (n : ℕ) → length (root_at n) ≡ 32
  unfolding root_at
  root_at_32 n = root_32 H H32 (nodes (leaves H id pages n)) (all_nodes (leaves H id pages n))

  hashes_32 : All32 hashes
  hashes_32 = all_leaves H H32 pages

  module _ (n : ℕ) (le : n ≤ length pages) where
    leaves_nodes : nodes (leaves H id pages n) ≡ take n hashes
    unfolding leaves
    leaves_nodes =
        let k = length-map pages (leaf H) in
        ap nodes (taken_joined n hashes hashes_32 (omega arith)) ∙ nodes_joined (take n hashes) (all_take n hashes hashes_32)

    leaves_count : length (take n hashes) ≡ n
    leaves_count = let k = length-map pages (leaf H) in simp length-take (omega arith)

    own_accepted : (place : ℕ) → place < n → inclusion_verdict H (H (0 ∷ get_or pages place [])) place n (root_at n) (own n place) ≡ 0
    unfolding root_at own
    own_accepted place h =
        let k = length-map pages (leaf H) in
        ap₂ (λ (x : List ℕ) (l : List (List ℕ)). inclusion_verdict H x place n (root H l) (joined (path H place l))) (sym (leaf_at H pages place (omega arith))) leaves_nodes
        ∙ own_inclusion H H32 hashes hashes_32 n place h (omega arith) (omega arith)

    own_short : (place : ℕ) → place < n → length (own n place) ≤ longest_path
    own_short place h =
        let c = (inclusion_accepted H (H (0 ∷ get_or pages place [])) place n (root_at n) (own n place) (own_accepted place h)).counted in
        let k = bounds.inclusion_largest place n h (omega arith) in
        omega arith

  -- two sizes
  module _ (m n : ℕ) (some : 0 < m) (order : m ≤ n) (le : n ≤ length pages) where
    first_nodes_lem : nodes (leaves H id pages m) ≡ take m (take n hashes)
    first_nodes_lem = leaves_nodes m (omega arith) ∙ sym (take-take m n hashes order)

    consistent : consistency_verdict H m n (root_at m) (root_at n) (since m n) ≡ 0
    unfolding root_at since
    consistent =
        let c = leaves_count n le in
        let l = take n hashes in
        ap₂ (λ (a b : List (List ℕ)). consistency_verdict H m n (root H a) (root H b) (joined (consistency H m b))) first_nodes_lem (leaves_nodes n le)
        ∙ ap (λ (i : ℕ). consistency_verdict H m i (root H (take m l)) (root H l) (joined (consistency H m l))) (sym c)
        ∙ own_consistency H H32 l (all_take n hashes hashes_32) m 0 some (omega arith) (omega arith)

    -- the path of a place is carried to its path in the longer list
    carried_on : (place pair : ℕ) → place < m → pair_bytes ≤ pair →
        carry H (H (0 ∷ get_or pages place [])) place m n (root_at m) (root_at n) (own m place) (since m n) longest_path pair ≡ carried (own n place)
    unfolding root_at own since
    carried_on place pair h long =
        let c = leaves_count n le in
        let l = take n hashes in
        let leaf₀ : H (0 ∷ get_or pages place []) ≡ get_or l place [] = sym (get_or-take n hashes place [] (omega arith) ∙ leaf_at H pages place (omega arith)) in
        let short : length (joined (path H place l)) ≤ longest_path = let s = own_short n le place (omega arith) in rw (leaves_nodes n le) at s in
        rw (leaf₀, first_nodes_lem, leaves_nodes n le)
        (ap (λ (i : ℕ). carry H (get_or l place []) place m i (root H (take m l)) (root H l) (joined (path H place (take m l))) (joined (consistency H m l)) longest_path pair) (sym c)
        ∙ own_carried H H32 l (all_take n hashes hashes_32) m place h (omega arith) (omega arith) longest_path pair short long)

  -- the record of a size and a timestamp
  held_at : ℕ → ℕ → Held
  held_at zero t = empty
  held_at (suc m) t = head id t (suc m) (root_at (suc m))

  held_at_lem : (m t : ℕ) → 0 < m → held_at m t ≡ head id t m (root_at m)
  unfolding held_at
  held_at_lem zero t h = absurd (omega arith)
  held_at_lem (suc m) t h = refl

  -- what is said of each entry, over a size: the log's own head and path, or its own page and path
  NewHead : ℕ → ℕ → List ℕ → List ℕ → Type 0
  NewHead m n r w = (m ≤ n) × (0 < n) × (n ≤ length pages) × (r ≡ root_at n) × (0 < m → w ≡ since m n)

  OwnPage : ℕ → ℕ → List ℕ → List ℕ → Type 0
  OwnPage m place item w = (item ≡ get_or pages place []) × (place < m) × (w ≡ own m place)

  Good : ℕ → List Entry → Type 0
  Good m [] = Unit {0}
  Good m (answered (offer id₂ time n r w) zero ∷ es) = NewHead m n r w × Good n es
  Good m (answered (offer id₂ time n r w) (suc k) ∷ es) = ⊥
  Good m (answered (ask place item w) zero ∷ es) = OwnPage m place item w × Good m es
  Good m (answered (ask place item w) (suc k) ∷ es) = ⊥

  good : {m t : ℕ} {calls : List Call} → Served H id pages m t calls → m ≤ length pages → Good m (map (λ (c : Call). answered c 0) calls)
  unfolding Good NewHead OwnPage root_at own since
  good Served.done h = tt
  good (Served.first some le s) h = ((omega arith, some, le, refl, λ z. absurd (omega arith)), good s le)
  good (Served.later some order le since₀ s) h = ((order, omega arith, le, refl, λ p. refl), good s le)
  good (Served.page l s) h = ((refl, l, refl), good s h)

  -- after some entries
  after_some : (es fs : List Entry) (m : ℕ) (r : List ℕ) → m ≤ length pages → (0 < m → r ≡ root_at m) → Good m (es ++ fs) →
      (let n = last_size m (heads es) in
      (n ≤ length pages) × (0 < n → last_root r (heads es) ≡ root_at n) × Good n fs)
  unfolding Good NewHead heads last_size last_root
  after_some [] fs m r le k g = (le, k, g)
  after_some (answered (offer id₂ time n s w) zero ∷ es) fs m r le k g = after_some es fs n s g.0.2 (λ z. g.0.3) g.1
  after_some (answered (offer id₂ time n s w) (suc j) ∷ es) fs m r le k g = absurd g
  after_some (answered (ask place item w) zero ∷ es) fs m r le k g = after_some es fs m r le k g.1
  after_some (answered (ask place item w) (suc j) ∷ es) fs m r le k g = absurd g

  module _ (least : 2 ≤ length id) (most : length id ≤ 127) (items : (i : ℕ) → length (get_or pages i []) ≤ most_item) where
    accepts : {m t : ℕ} {calls : List Call} → Served H id pages m t calls → m ≤ length pages → run H (held_at m t) calls ≡ map (λ (c : Call). answered c 0) calls
    unfolding held_at root_at own since paper_number paper_after kept run
    accepts Served.done h = refl
    accepts (Served.first {n = n} {time = time} {calls = calls} some le s) h =
        goes_on H (offer id time n (root_at n) []) empty (held_at n time) calls (map (λ (c : Call). answered c 0) calls) (takes_first H id least most time n (root_at n) (root_at_32 n) some (omega arith)) (sym (held_at_lem n time some)) (accepts s le)
    accepts (Served.later {m = m} {t = t} {n = n} {time = time} {calls = calls} some order le later s) h =
        let v = consistent m n some order le in
        let c = (consistency_accepted H m n (root_at m) (root_at n) (since m n) v).counted in
        ap (λ (held : Held). run H held (offer id time n (root_at n) (since m n) ∷ calls)) (held_at_lem m t some)
        ∙ goes_on H (offer id time n (root_at n) (since m n)) (head id t m (root_at m)) (held_at n time) calls (map (λ (c : Call). answered c 0) calls)
        (takes_later H id least most time n (root_at n) (root_at_32 n) (omega arith) (omega arith) t m (root_at m) (since m n) (omega arith) order (no_earlier later) (λ q. let k = again later q in (k, ap root_at k)) (λ q. ap root_at q) ∙ v)
        (sym (held_at_lem n time (omega arith))) (accepts s le)
    accepts (Served.page {m = m} {t = t} {place = place} {calls = calls} l s) h =
        let item = get_or pages place [] in
        goes_on H (ask place item (own m place)) (held_at m t) (held_at m t) calls (map (λ (c : Call). answered c 0) calls)
        (ap (λ (held : Held). paper_number H held (ask place item (own m place))) (held_at_lem m t (omega arith)) ∙ takes_page H id t m (root_at m) place item (own m place) (items place) (own_accepted m h place l)) refl (accepts s h)

    -- two proofs of the log's own page under one head
    own_settled : (m place pair : ℕ) → place < m → m ≤ length pages → pair_bytes ≤ pair →
        (let item = get_or pages place [] in
        settled item item (compare H place m (root_at m) (H (0 ∷ item)) (own m place) (H (0 ∷ item)) (own m place) pair) ≡ alike)
    unfolding settled
    own_settled m place pair h le l =
        let item = get_or pages place [] in
        let h₁ = H (0 ∷ item) in
        let v = own_accepted m le place h in
        rw ((((comparing H H32).compares place m (root_at m) h₁ (own m place) h₁ (own m place) pair).same v v l).1 (refl, refl), same_refl item)

    -- over the heads that an honest log served since
    follows : (es fs : List Entry) (m place pair : ℕ) (item w : List ℕ) → place < m → m ≤ length pages → pair_bytes ≤ pair → Good m (es ++ (answered (ask place item w) 0 ∷ fs)) →
        follow H place (get_or pages place []) item w pair (heads es) m (root_at m) (own m place) ≡ alike
    unfolding Good NewHead OwnPage heads follow onward
    follows [] fs m place pair item w h le l g = rw (g.0.0, g.0.2) (own_settled m place pair h le l)
    follows (answered (offer id₂ time n s q) zero ∷ es) fs m place pair item w h le l g =
        let k = g.0 in
        rw (k.3, k.4 (omega arith), carried_on m n (omega arith) k.0 k.2 place pair h l) (follows es fs n place pair item w (omega arith) k.2 l g.1)
    follows (answered (offer id₂ time n s q) (suc j) ∷ es) fs m place pair item w h le l g = absurd g
    follows (answered (ask x other q) zero ∷ es) fs m place pair item w h le l g = follows es fs m place pair item w h le l g.1
    follows (answered (ask x other q) (suc j) ∷ es) fs m place pair item w h le l g = absurd g

    disputed : (m place pair : ℕ) (r item₁ w₁ item₂ w₂ : List ℕ) (es fs : List Entry) (hs : Heads) → m ≤ length pages → (0 < m → r ≡ root_at m) → pair_bytes ≤ pair → hs ≡ heads es →
        Good m (answered (ask place item₁ w₁) 0 ∷ (es ++ (answered (ask place item₂ w₂) 0 ∷ fs))) → dispute H item₁ place w₁ m r hs item₂ w₂ pair ≡ alike
    unfolding dispute unless Good OwnPage
    disputed m place pair r item₁ w₁ item₂ w₂ es fs hs le k l e g =
        let p = g.0 in
        let item = get_or pages place [] in
        let two = after_some es (answered (ask place item₂ w₂) 0 ∷ fs) m r le k g.1 in
        let i : length item₂ ≤ most_item = let j = items place in let q = ap length two.2.0.0 in omega arith in
        let root = k (omega arith) in
        rw (p.0, p.2, root, e, le-ltb most_item (length item) (items place), le-ltb most_item (length item₂) i, own_accepted m le place p.1)
        (follows es fs m place pair item₂ w₂ p.1 le l g.1)

said : (f : Finding) → f ≡ alike → dispute_report f ≡ Answer.done Ruling.same_page
unfolding dispute_report
said f e = rw e

-- a list of calls by one number, and its entries
under_all : (n : ℕ) (calls : List Call) → map (under n) (map (λ (c : Call). answered c 0) calls) ≡ map (λ (c : Call). under n (answered c 0)) calls
under_all n [] = refl
under_all n (c ∷ calls) = ap (λ (l : List (Numbered Entry)). under n (answered c 0) ∷ l) (under_all n calls)

plain_all : (n : ℕ) (calls : List Call) → plain (map (λ (c : Call). under n (answered c 0)) calls) ≡ map (λ (c : Call). answered c 0) calls
unfolding plain
plain_all n [] = refl
plain_all n (c ∷ calls) = ap (λ (l : List Entry). answered c 0 ∷ l) (plain_all n calls)

numbered_so : (n m : ℕ) (calls : List Call) (before rest : List (Numbered Entry)) (x : Entry) → map (λ (c : Call). under n (answered c 0)) calls ≡ before ++ (under m x ∷ rest) → n ≡ m
numbered_so n m [] [] rest x e = absurd (let y : ◌≡◌ {A = ℕ} 0 1 = cc in omega arith)
numbered_so n m [] (b ∷ before) rest x e = absurd (let y : ◌≡◌ {A = ℕ} 0 1 = cc in omega arith)
numbered_so n m (c ∷ calls) [] rest x e = cc
numbered_so n m (c ∷ calls) (b ∷ before) rest x e =
    let f : map (λ (d : Call). under n (answered d 0)) calls ≡ before ++ (under m x ∷ rest) = cc in
    numbered_so n m calls before rest x f

plain_two : (x y z : List (Numbered Entry)) (n m : ℕ) (e f : Entry) → plain (x ++ (under n e ∷ (y ++ (under m f ∷ z)))) ≡ plain x ++ (e ∷ (plain y ++ (f ∷ plain z)))
unfolding plain
plain_two x y z n m e f = plain_append x (under n e ∷ (y ++ (under m f ∷ z))) ∙ ap (λ (l : List Entry). plain x ++ (e ∷ l)) (plain_append y (under m f ∷ z))

-- what is said under the hash of a number is said by the number
said_by : (n : ℕ) (a : Algorithm) (page₁ : List ℕ) (place : ℕ) (path₁ : List ℕ) (size : ℕ) (root : List ℕ) (hs : Heads) (page₂ path₂ : List ℕ) (pair : ℕ) → algorithm_of n ≡ By a →
    dispute (hash_of a) page₁ place path₁ size root hs page₂ path₂ pair ≡ alike → dispute_report (dispute_by n page₁ place path₁ size root hs page₂ path₂ pair) ≡ Answer.done Ruling.same_page
unfolding dispute_by
said_by n a page₁ place path₁ size root hs page₂ path₂ pair e f = said _ (sym (by_known n _ _ a (sym e)) ∙ f)

pub honest_log : HonestLog
unfolding held_at
honest_log a id pages calls least most all items s = record { accepted = accepted₀; same = same₀ }
  where
    ran : run (hash_of a) empty calls ≡ map (λ (c : Call). answered c 0) calls
    ran = accepts (hash_of a) (hash_length a) id pages all least most items s (omega arith)

    accepted₀ : answers empty_record (map (under (number_of a)) calls) ≡ map (λ (c : Call). under (number_of a) (answered c 0)) calls
    accepted₀ =
        all_own a (number_of a) (numbers.of_number a) calls empty_record (free_choice empty_record (number_of a) holds_nothing ∙ numbers.of_number a)
        ∙ ap (λ (v : Held). map (under (number_of a)) (run (hash_of a) v calls)) view_none ∙ ap (map (under (number_of a))) ran ∙ under_all (number_of a) calls

    same₀ : (before between rest : List (Numbered Entry)) (n₁ n₂ place : ℕ) (page₁ path₁ page₂ path₂ pair : List ℕ) →
        answers empty_record (map (under (number_of a)) calls) ≡ before ++ (under n₁ (answered (ask place page₁ path₁) 0) ∷ (between ++ (under n₂ (answered (ask place page₂ path₂) 0) ∷ rest))) →
        pair_bytes ≤ length pair →
        dispute_report (dispute_by n₁ page₁ place path₁ (last_size 0 (heads (plain before))) (last_root [] (heads (plain before))) (heads_of (joined_heads (heads (plain between)))) page₂ path₂ (length pair)) ≡ Answer.done Ruling.same_page
    same₀ before between rest n₁ n₂ place page₁ path₁ page₂ path₂ pair e l =
        let f = sym accepted₀ ∙ e in
        let x = plain before in
        let y = plain between in
        let fs = answered (ask place page₂ path₂) 0 ∷ plain rest in
        let d : map (λ (c : Call). answered c 0) calls ≡ x ++ (answered (ask place page₁ path₁) 0 ∷ (y ++ fs)) =
        sym (plain_all (number_of a) calls) ∙ ap plain f ∙ plain_two before between rest n₁ n₂ (answered (ask place page₁ path₁) 0) (answered (ask place page₂ path₂) 0) in
        let named = ap algorithm_of (sym (numbered_so (number_of a) n₁ calls before _ _ f)) ∙ numbers.of_number a in
        let g : Good (hash_of a) (hash_length a) id pages all 0 (x ++ (answered (ask place page₁ path₁) 0 ∷ (y ++ fs))) = rw d at (good (hash_of a) (hash_length a) id pages all s (omega arith)) in
        let k = after_some (hash_of a) (hash_length a) id pages all x (answered (ask place page₁ path₁) 0 ∷ (y ++ fs)) 0 [] (omega arith) (λ z. absurd (omega arith)) g in
        let back = read_back (heads y) (heads_fit (hash_of a) calls x y fs place page₁ path₁ (ran ∙ d)) in
        said_by n₁ a page₁ place path₁ (last_size 0 (heads x)) (last_root [] (heads x)) (heads_of (joined_heads (heads y))) page₂ path₂ (length pair) named
        (disputed (hash_of a) (hash_length a) id pages all least most items (last_size 0 (heads x)) place (length pair) (last_root [] (heads x)) page₁ path₁ page₂ path₂ y (plain rest) (heads_of (joined_heads (heads y))) k.0 k.1 l back k.2)

pub grown_heads : GrownHeads
grown_heads a id pages calls n all le e =
    let H = hash_of a in
    let f = follows_all H (number_of a) calls in
    let k = length-map pages (leaf H) in
    let t : length (take n (map (leaf H) pages)) ≡ n = simp length-take (omega arith) in
    (f.count_of_all ∙ ap length e ∙ t, f.root_of_all ∙ ap (root H) (e ∙ sym (leaves_nodes H (hash_length a) id pages all n le)))
