-- What the layers above may use of the hashes beside the contracts: their values are 32 bytes; and which numbers they have. Assumes nothing.
use mathlib.Core.Bool.{Bool, true, false, cond}
use mathlib.Core.Path.{◌≡◌, refl, sym, ap, ◌∙◌}
use mathlib.Core.List.{List, ◌++◌}
use Prim.Native.Nat.{ℕ, zero, suc, ◌<◌}
use native.Mathlib.Omega.{arith}
use lib.Dec.{eqb}
use lib.ListN.{get_or}
use borrow.Author.Tests.{eqb-true}
use Rattle.octets.specs.Bytes.{Bytes, no_bytes, one_byte}
use Rattle.octets.specs.Numbers.{be}
use Rattle.octets.proofs.Numbers.{be_bytes}
use Rattle.words.specs.declared.State.{State}
use Rattle.hash.specs.declared.Algorithm.{Algorithm}
use Rattle.hash.specs.declared.Algorithm.TheVariants.{Sha256, Sm3}
use Rattle.hash.specs.declared.Named.{Named}
use Rattle.hash.specs.declared.Named.TheVariants.{By, Unknown}
use Rattle.hash.specs.Algorithm.{number_of, algorithm_of, start_of, step_of}
use Rattle.hash.specs.Message.{hash_value, state_bytes}
use Rattle.hash.specs.Digest.{hash_of}
use Rattle.hash.specs.Claims.{Has32, AreBytes, OneNumberEach, HeldAlone, AnsweredBy}
use Rattle.hash.proofs.Algorithms.{names_sha256, names_sm3, names_none, held_itself, held_another, by_known, by_unknown}

pub hash_length : Has32
unfolding hash_of state_bytes be
hash_length a m = refl

at : {l : List ℕ} → Bytes l → (i : ℕ) → get_or l i 0 < 256
at no_bytes i = omega arith
at (one_byte h k) zero = h
at (one_byte h k) (suc i) = at k i

both : {x y : List ℕ} → Bytes x → Bytes y → Bytes (x ++ y)
both no_bytes q = q
both (one_byte h p) q = one_byte h (both p q)

state_bytes_lem : (s : State) → Bytes (state_bytes s)
unfolding state_bytes
state_bytes_lem s =
    both (be_bytes 4 s.a) (both (be_bytes 4 s.b) (both (be_bytes 4 s.c) (both (be_bytes 4 s.d)
    (both (be_bytes 4 s.e) (both (be_bytes 4 s.f) (both (be_bytes 4 s.g) (be_bytes 4 s.h)))))))

pub hash_bytes : AreBytes
unfolding hash_of
hash_bytes a m = at (state_bytes_lem (hash_value (step_of a) (start_of a) m))

-- ---- the numbers

number_named : (a : Algorithm) → algorithm_of (number_of a) ≡ By a
unfolding algorithm_of number_of
number_named Sha256 = refl
number_named Sm3 = refl

-- the number that a name has, or the one that names nothing
back : ℕ → Named → ℕ
back n (By a) = number_of a
back n Unknown = n

back_cases : (n : ℕ) (u v : Bool) → eqb n 0x00 ≡ u → eqb n 0xF0 ≡ v → n ≡ back n (cond u (By Sha256) (cond v (By Sm3) Unknown))
unfolding back number_of
back_cases n true v d e = eqb-true n 0x00 d
back_cases n false true d e = eqb-true n 0xF0 e
back_cases n false false d e = refl

back_is : (n : ℕ) → n ≡ back n (algorithm_of n)
unfolding algorithm_of
back_is n = back_cases n (eqb n 0x00) (eqb n 0xF0) refl refl

pub numbers : OneNumberEach
unfolding back
numbers =
    record {
      first = sym (names_sha256 0x00 refl);
      second = sym (names_sm3 0xF0 refl);
      no_other = λ n d e. sym (names_none n d e);
      of_number = number_named;
      one_number = λ n a e. back_is n ∙ ap (back n) e;
    }

pub held : HeldAlone
held = record { itself = λ n. sym (held_itself n n refl); another = λ h n d. sym (held_another h n d) }

pub answered : (A : Type 0) → AnsweredBy A
answered A =
    record {
      by_sha256 = λ refusal answer. sym (by_known 0x00 refusal answer Sha256 (names_sha256 0x00 refl));
      by_sm3 = λ refusal answer. sym (by_known 0xF0 refusal answer Sm3 (names_sm3 0xF0 refl));
      by_no_other = λ n d e refusal answer. sym (by_unknown n refusal answer (names_none n d e));
    }
