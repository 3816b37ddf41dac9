-- The claims by number over the contracts as the source states them: each call's answer is any that its `ensures` allows, so that a weaker `ensures` does
-- not prove them. Assumes nothing.
use mathlib.Core.Path.{◌≡◌, refl, sym, ap, ◌∙◌}
use mathlib.Core.List.{List, [], ◌∷◌}
use Prim.Native.Nat.{ℕ, suc, ◌≤◌, ◌<◌}
use native.Mathlib.Omega.{arith}
use contract.Lifetimes.{Lfts}
use denote.Ref.{Bor}
use denote.MutBor.{MutBor}
use lib.ListN.{length}
use Rattle.hash.specs.declared.Algorithm.{Algorithm}
use Rattle.hash.specs.declared.Hashed.{Hashed}
use Rattle.hash.specs.declared.Named.TheVariants.{By, Unknown}
use Rattle.hash.specs.Algorithm.{algorithm_of, held_by}
use Rattle.hash.specs.Digest.{hash_of}
use Rattle.hash.proofs.Algorithms.{held_another}
use Rattle.hash.proofs.Promises.{hash_length}
use Rattle.octets.specs.Answer.{done, refused}
use Rattle.tree.specs.declared.build.Built.{Built}
use Rattle.tree.specs.Tree.{root}
use Rattle.octets.specs.Bytes.{over}
use Rattle.tree.specs.Build.{Outcome, wrote, building, build_report, output, into}
use Rattle.tree.specs.Build as Build
use Rattle.tree.proofs.Building.{short, long}
use Rattle.tree.proofs.Completing.{root_32}
use Rattle.growing.specs.declared.Growing.{Growing}
use Rattle.growing.specs.declared.Grown.{Grown}
use Rattle.growing.specs.Hashes.{digest, nothing, fresh}
use Rattle.growing.specs.Calls.{Call, of_page, of_leaves, Numbered, under, made, grown_in, root_in, root_into_in, tree_in, called_by}
use Rattle.growing.specs.Claims.{Follows, tree_of, leaves_of, Known, Refuses, NoneHas, ByNumber}
use Rattle.growing.proofs.Calling.{follows_all, however_cut}
use Rattle.growing.proofs.Stepping.{root_into_of}
use Rattle.growing.proofs.Showing.{taken_32}
use Rattle.growing.proofs.Numbering.{made_known, made_none, grown_none, root_known, root_none, into_known, into_none, held_known, held_none, held_by_none, tree_known, unchanged_in}
use Rattle.growing.proofs.new.Reads as new-reads
use Rattle.growing.proofs.root.Reads as root-reads
use Rattle.growing.proofs.root_into.Reads as root-into-reads
use Rattle.growing.proofs.add.add_page.Reads as add-page-reads
use Rattle.growing.proofs.add.add_leaves.Reads as add-leaves-reads

-- the calls made from a tree to a tree, each by its number and given the tree that the one before returned
pub data Run : Growing → List Numbered → Growing → Type 0 where
  stop : {g : Growing} → Run g [] g
  pages : {g e : Growing} {calls : List Numbered} (κs : Lfts 1) (n : ℕ) (page : Bor (List ℕ)) (o : Grown) →
      add-page-reads.Learnt κs (n, (g, (page, tt))) o (n, (g, (page, tt))) → Run o.after calls e → Run g (under n (of_page page.now) ∷ calls) e
  joins : {g e : Growing} {calls : List Numbered} (κs : Lfts 1) (n : ℕ) (leaves : Bor (List ℕ)) (o : Grown) →
      add-leaves-reads.Learnt κs (n, (g, (leaves, tt))) o (n, (g, (leaves, tt))) → Run o.after calls e → Run g (under n (of_leaves leaves.now) ∷ calls) e

one_more : (g e : Growing) (n : ℕ) (c : Call) (o : Grown) (calls : List Numbered) → o ≡ grown_in n g c → e ≡ tree_in o.after calls → e ≡ tree_in g (under n c ∷ calls)
unfolding tree_in
one_more g e n c o calls p q = q ∙ ap (λ (x : Grown). tree_in x.after calls) p

ends : (g e : Growing) (calls : List Numbered) → Run g calls e → e ≡ tree_in g calls
unfolding tree_in
ends g e calls stop = refl
ends g e calls (pages {calls = more} κs n page o p rest) = one_more g e n (of_page page.now) o more p (ends o.after e more rest)
ends g e calls (joins {calls = more} κs n leaves o p rest) = one_more g e n (of_leaves leaves.now) o more p (ends o.after e more rest)

-- ---- a tree that was made with a number that has a hash

module _ (n : ℕ) (a : Algorithm) (e : algorithm_of n ≡ By a) where
  pub every_new : (start : Grown) → new-reads.Learnt tt (n, tt) start (n, tt) → start ≡ record { number = 0; after = fresh n }
  every_new start s = s ∙ sym (made_known n a (sym e))

  module _ (start : Grown) (end : Growing) (calls : List Numbered) (s : new-reads.Learnt tt (n, tt) start (n, tt)) (run : Run start.after calls end) where
    -- the tree after any run from it, and the root then
    pub every_tree : end ≡ tree_of (hash_of a) n (called_by n calls)
    every_tree =
        ends start.after end calls run ∙ ap (λ (o : Grown). tree_in o.after calls) (every_new start s) ∙ tree_known n a e calls (fresh n) refl

    pub every : Follows (hash_of a) n end (leaves_of (hash_of a) n (called_by n calls))
    every = rw every_tree (follows_all (hash_of a) n (called_by n calls))

    held : By a ≡ held_by end.algorithm n
    held = held_known end.algorithm n a e (sym every.number)

    pub every_root : (d : Hashed) → root-reads.Learnt tt (n, (end, tt)) d (n, (end, tt)) →
        d ≡ record { number = 0; digest = digest (root (hash_of a) (leaves_of (hash_of a) n (called_by n calls))) }
    every_root d p = p ∙ sym (root_known n end a held) ∙ ap (λ (h : List ℕ). record { number = 0; digest = digest h }) every.root_of_all

    root_length : length (root (hash_of a) (leaves_of (hash_of a) n (called_by n calls))) ≡ 32
    root_length = root_32 (hash_of a) (hash_length a) (leaves_of (hash_of a) n (called_by n calls)) (taken_32 (hash_of a) (hash_length a) (fresh n) (called_by n calls))

    root_built_lem : (room : ℕ) → root_into_in n end room ≡ into room (root (hash_of a) (leaves_of (hash_of a) n (called_by n calls)))
    root_built_lem room = sym (into_known n end room a held) ∙ root_into_of (hash_of a) end room ∙ ap (into room) every.root_of_all

    pub every_root_into :
        (κs : Lfts 1) (out out' : MutBor (List ℕ)) (b : Built) → root-into-reads.Learnt κs (n, (end, (out, tt))) b (n, (end, (out', tt))) → 32 ≤ length out.now →
        (building b ≡ done 32) × (out'.now ≡ over (root (hash_of a) (leaves_of (hash_of a) n (called_by n calls))) out.now)
    unfolding build_report output
    every_root_into κs out out' b p h =
        let r = root (hash_of a) (leaves_of (hash_of a) n (called_by n calls)) in
        let w = root_length in
        let o : root_into_in n end (length out.now) ≡ wrote r = root_built_lem (length out.now) ∙ long (length out.now) r (omega arith) in
        (p.0 ∙ ap build_report o ∙ ap done w, p.1 ∙ ap (λ (x : Outcome). output x out.now) o)

    pub every_root_refused :
        (κs : Lfts 1) (out out' : MutBor (List ℕ)) (b : Built) → root-into-reads.Learnt κs (n, (end, (out, tt))) b (n, (end, (out', tt))) → length out.now < 32 →
        (building b ≡ refused 9) × (out'.now ≡ out.now)
    unfolding build_report output
    every_root_refused κs out out' b p h =
        let r = root (hash_of a) (leaves_of (hash_of a) n (called_by n calls)) in
        let w = root_length in
        let o : root_into_in n end (length out.now) ≡ Build.refused 9 = root_built_lem (length out.now) ∙ short (length out.now) r (omega arith) in
        (p.0 ∙ ap build_report o, p.1 ∙ ap (λ (x : Outcome). output x out.now) o)

  -- two runs that took the same leaves end in the same tree
  pub every_cut :
      (start start' : Grown) (end end' : Growing) (calls others : List Numbered) → new-reads.Learnt tt (n, tt) start (n, tt) → new-reads.Learnt tt (n, tt) start' (n, tt) →
      Run start.after calls end → Run start'.after others end' →
      leaves_of (hash_of a) n (called_by n calls) ≡ leaves_of (hash_of a) n (called_by n others) → end ≡ end'
  every_cut start start' end end' calls others s s' run run' same =
      every_tree start end calls s run ∙ however_cut (hash_of a) n (called_by n calls) (called_by n others) same ∙ sym (every_tree start' end' others s' run')

-- ---- any tree

-- a refused call hands back the tree that it was given
unchanged : (n : ℕ) (g : Growing) (c : Call) (o : Grown) (k : ℕ) → o ≡ grown_in n g c → o.number ≡ suc k → o.after ≡ g
unchanged n g c o k p e = ap (λ (x : Grown). x.after) p ∙ unchanged_in n g c k (ap (λ (x : Grown). x.number) (sym p) ∙ e)

module _ (n : ℕ) (g : Growing) where
  pub every_refused_page :
      (κs : Lfts 1) (page : Bor (List ℕ)) (o : Grown) (k : ℕ) → add-page-reads.Learnt κs (n, (g, (page, tt))) o (n, (g, (page, tt))) → o.number ≡ suc k → o.after ≡ g
  every_refused_page κs page o k p e = unchanged n g (of_page page.now) o k p e

  pub every_refused_leaves :
      (κs : Lfts 1) (leaves : Bor (List ℕ)) (o : Grown) (k : ℕ) → add-leaves-reads.Learnt κs (n, (g, (leaves, tt))) o (n, (g, (leaves, tt))) → o.number ≡ suc k → o.after ≡ g
  every_refused_leaves κs leaves o k p e = unchanged n g (of_leaves leaves.now) o k p e

  -- 16 from every call, by a number that names nothing to the tree
  module _ (none : Unknown ≡ held_by g.algorithm n) where
    pub every_16_page :
        (κs : Lfts 1) (page : Bor (List ℕ)) (o : Grown) → add-page-reads.Learnt κs (n, (g, (page, tt))) o (n, (g, (page, tt))) → o ≡ record { number = 16; after = g }
    every_16_page κs page o p = p ∙ sym (grown_none n g (of_page page.now) none)

    pub every_16_leaves :
        (κs : Lfts 1) (leaves : Bor (List ℕ)) (o : Grown) → add-leaves-reads.Learnt κs (n, (g, (leaves, tt))) o (n, (g, (leaves, tt))) → o ≡ record { number = 16; after = g }
    every_16_leaves κs leaves o p = p ∙ sym (grown_none n g (of_leaves leaves.now) none)

    pub every_16_root : (d : Hashed) → root-reads.Learnt tt (n, (g, tt)) d (n, (g, tt)) → d ≡ record { number = 16; digest = nothing }
    every_16_root d p = p ∙ sym (root_none n g none)

    pub every_16_root_into :
        (κs : Lfts 1) (out out' : MutBor (List ℕ)) (b : Built) → root-into-reads.Learnt κs (n, (g, (out, tt))) b (n, (g, (out', tt))) →
        (building b ≡ refused 16) × (out'.now ≡ out.now)
    unfolding build_report output
    every_16_root_into κs out out' b p =
        let o = sym (into_none n g (length out.now) none) in
        (p.0 ∙ ap build_report o, p.1 ∙ ap (λ (x : Outcome). output x out.now) o)

pub every_none : (n : ℕ) → algorithm_of n ≡ Unknown → (start : Grown) → new-reads.Learnt tt (n, tt) start (n, tt) → start ≡ record { number = 16; after = fresh n }
every_none n e start s = s ∙ sym (made_none n (sym e))

-- ---- the claims, through the contracts

ref : List ℕ → Bor (List ℕ)
ref l = record { ref_ptr = (0, 0); now = l }

runs : (g : Growing) (calls : List Numbered) → Run g calls (tree_in g calls)
unfolding tree_in ref
runs g [] = stop
runs g (under n (of_page page) ∷ calls) = pages ([], tt) n (ref page) (grown_in n g (of_page page)) refl (runs (grown_in n g (of_page page)).after calls)
runs g (under n (of_leaves leaves) ∷ calls) = joins ([], tt) n (ref leaves) (grown_in n g (of_leaves leaves)) refl (runs (grown_in n g (of_leaves leaves)).after calls)

known : (n : ℕ) (a : Algorithm) → algorithm_of n ≡ By a → Known n a
known n a e =
    let end = tree_in (made n).after in
    record {
      begun = every_new n a e (made n) refl;
      tree = λ calls. every_tree n a e (made n) (end calls) calls refl (runs (made n).after calls);
      follows = λ calls. every n a e (made n) (end calls) calls refl (runs (made n).after calls);
      however_cut = λ calls others same. every_cut n a e (made n) (made n) (end calls) (end others) calls others refl refl (runs (made n).after calls) (runs (made n).after others) same;
      root_then = λ calls. every_root n a e (made n) (end calls) calls refl (runs (made n).after calls) (root_in n (end calls)) refl;
    }

calls_16 : (n : ℕ) (g : Growing) → Unknown ≡ held_by g.algorithm n → (c : Call) → grown_in n g c ≡ record { number = 16; after = g }
unfolding ref
calls_16 n g none (of_page page) = every_16_page n g none ([], tt) (ref page) (grown_in n g (of_page page)) refl
calls_16 n g none (of_leaves leaves) = every_16_leaves n g none ([], tt) (ref leaves) (grown_in n g (of_leaves leaves)) refl

refuses : (n : ℕ) (g : Growing) → Unknown ≡ held_by g.algorithm n → Refuses n g
refuses n g none = record {
  call = calls_16 n g none;
  root = every_16_root n g none (root_in n g) refl;
  root_into_lem = λ room. sym (into_none n g room none);
}

none_has : (n : ℕ) → algorithm_of n ≡ Unknown → NoneHas n
none_has n e =
    let s = every_none n e (made n) refl in
    record { begun = s; refuses = λ m. rw s (refuses m (fresh n) (held_by_none n m e)) }

unchanged_claimed : (n : ℕ) (g : Growing) (c : Call) (k : ℕ) → (grown_in n g c).number ≡ suc k → (grown_in n g c).after ≡ g
unfolding ref
unchanged_claimed n g (of_page page) k e = every_refused_page n g ([], tt) (ref page) (grown_in n g (of_page page)) k refl e
unchanged_claimed n g (of_leaves leaves) k e = every_refused_leaves n g ([], tt) (ref leaves) (grown_in n g (of_leaves leaves)) k refl e

pub claimed : ByNumber
claimed = record {
  known = known;
  unknown = none_has;
  another = λ n g d. refuses n g (held_another g.algorithm n d);
  none = λ n g e. refuses n g (held_none g.algorithm n e);
  unchanged = unchanged_claimed;
}
