-- What holds of either hash, and of either number. Assumes nothing.
use mathlib.Core.Path.{◌≡◌, refl, sym, ap, ◌∙◌}
use mathlib.Core.List.{List}
use Prim.Native.Nat.{ℕ, ◌≤◌}
use native.Mathlib.Omega.{arith}
use lib.ListN.{length}
use borrow.Author.Tests.{eq-eqb, ne_eqb}
use Rattle.words.specs.declared.State.{State}
use Rattle.words.specs.Words.{word_from}
use Rattle.words.specs.Answers.{Compression, Scheduling, value_after}
use Rattle.words.proofs.Promises.{block_taken}
use Rattle.sha256.proofs.Promises as sha-laws
use Rattle.sm3.proofs.Promises as sm-laws
use Rattle.hash.specs.declared.Algorithm.{Algorithm}
use Rattle.hash.specs.declared.Algorithm.TheVariants.{Sha256, Sm3}
use Rattle.hash.specs.declared.Named.{Named}
use Rattle.hash.specs.declared.Named.TheVariants.{By, Unknown}
use Rattle.hash.specs.Algorithm.{algorithm_of, held_by, step_of}
use Rattle.hash.specs.Message.{absorbed}
use Rattle.hash.specs.Digest.{hash_of, by_named, by_number}
use Rattle.hash.proofs.Padding.{ByWords}

-- the block step goes by a block's sixteen words alone
pub step_same : (a : Algorithm) → ByWords (step_of a)
unfolding step_of
step_same Sha256 = sha-laws.compress_same
step_same Sm3 = sm-laws.compress_same

-- two blocks, one after the other, in a schedule of n words
pub both_taken : (n : ℕ) (C : Compression) (S : Scheduling) (s r t : State) (m w v : List ℕ) → 128 ≤ length m → length w ≡ n → length v ≡ n →
    r ≡ value_after n C s m 0 w → t ≡ value_after n C r m 64 v → t ≡ absorbed C s m 2
unfolding absorbed
both_taken n C S s r t m w v l h k e f =
    f ∙ sym (block_taken n C S r m v 64 (omega arith) k).0 ∙ ap (λ (x : State). C x (word_from m 64)) (e ∙ sym (block_taken n C S s m w 0 (omega arith) h).0)

-- ---- what a number names

pub names_sha256 : (n : ℕ) → n ≡ 0x00 → By Sha256 ≡ algorithm_of n
unfolding algorithm_of
names_sha256 n e = rw (eq-eqb n 0x00 e)

pub names_sm3 : (n : ℕ) → n ≡ 0xF0 → By Sm3 ≡ algorithm_of n
unfolding algorithm_of
names_sm3 n e = let d : n ≡ 0x00 → ⊥ = λ z. omega arith in rw (ne_eqb n 0x00 d, eq-eqb n 0xF0 e)

pub names_none : (n : ℕ) → (n ≡ 0x00 → ⊥) → (n ≡ 0xF0 → ⊥) → Unknown ≡ algorithm_of n
unfolding algorithm_of
names_none n d e = rw (ne_eqb n 0x00 d, ne_eqb n 0xF0 e)

-- ---- what it names where one is held

pub held_itself : (held n : ℕ) → n ≡ held → algorithm_of n ≡ held_by held n
unfolding held_by
held_itself held n e = rw (eq-eqb n held e)

pub held_another : (held n : ℕ) → (n ≡ held → ⊥) → Unknown ≡ held_by held n
unfolding held_by
held_another held n d = rw (ne_eqb n held d)

-- ---- what is answered by what a number names, and by the number

module _ {A : Type 0} (named : Named) (refusal : A) (answer : (List ℕ → List ℕ) → A) where
  pub named_known : (a : Algorithm) → By a ≡ named → answer (hash_of a) ≡ by_named named refusal answer
  unfolding by_named
  named_known a e = rw (sym e) refl

  pub named_none : Unknown ≡ named → refusal ≡ by_named named refusal answer
  unfolding by_named
  named_none e = rw (sym e) refl

module _ {A : Type 0} (n : ℕ) (refusal : A) (answer : (List ℕ → List ℕ) → A) where
  pub by_known : (a : Algorithm) → By a ≡ algorithm_of n → answer (hash_of a) ≡ by_number n refusal answer
  unfolding by_number
  by_known a e = named_known (algorithm_of n) refusal answer a e

  pub by_unknown : Unknown ≡ algorithm_of n → refusal ≡ by_number n refusal answer
  unfolding by_number
  by_unknown e = named_none (algorithm_of n) refusal answer e

-- ---- a hash, where any serves
pub some_hash : Algorithm
some_hash = Sha256
