-- All terms of a rule: what `read_terms` answers.
use Rattle.std.specs.Prelude.{None, Result, Ok, Err}
use Rattle.std.specs.Prelude.{◌≡◌, List, ℕ, suc, ◌+◌, ◌*◌, ◌≤◌, length, drop, replicate}
use Rattle.std.proofs.Common.{sym, ◌∙◌, arith}
use Rattle.std.proofs.Math.Numerals.{add-one}
use Rattle.definition.specs.Pack.{Pack, prop}
use Rattle.definition.specs.Frame.{Checked, good, bad, over}
use Rattle.definition.specs.Theory.{Unread, words}
use Rattle.definition.proofs.Laws.Prefix.{read_all}
use Rattle.pack_tables.specs.Place.{Place}
use Rattle.pack_read.specs.Reads.{Reads}
use Rattle.pack_reader.specs.Terms.{wanted_by, unread_at}
use Rattle.pack_reader.specs.TermsTurns.{Reached, run_from, Onward, Turned}
use Rattle.pack_reader.specs.declared.terms.Point.{Point}
use Rattle.pack_reader.specs.declared.taken.Fault.{Fault}
use Rattle.pack_reader.specs.declared.taken.Fault.TheVariants.{Bad, Over}

-- the premises and the conclusion, by the definition's loop
abbrev pub run_terms : Pack → List ℕ → ℕ → ℕ → Checked Unread
run_terms P body vars premises = read_all 256 P (words vars (drop 4 body)) (replicate (suc premises) prop) (unread_at body (4 + 4 * vars) 0)

-- they end at e
pub record Ended (bytes : List ℕ) (rs : ℕ → List Place) (body : List ℕ) (vars premises e : ℕ) : Type 0 where
  pub count : ℕ
  pub starts : 4 + 4 * vars ≤ e
  pub inside : e ≤ length body
  pub run : (P : Pack) → Reads bytes rs P → run_terms P body vars premises ≡ good (unread_at body e count)

abbrev pub TermsRead : List ℕ → (ℕ → List Place) → List ℕ → ℕ → ℕ → Result ℕ Fault → Type 0
TermsRead bytes rs body vars premises (Ok e) = Ended bytes rs body vars premises e
TermsRead bytes rs body vars premises (Err Bad) = (P : Pack) → Reads bytes rs P → run_terms P body vars premises ≡ bad
TermsRead bytes rs body vars premises (Err Over) = (P : Pack) → Reads bytes rs P → run_terms P body vars premises ≡ over

-- the rest of the run gives the whole
pub record Running (bytes : List ℕ) (rs : ℕ → List Place) (body : List ℕ) (vars premises : ℕ) (fs : List ℕ) (p : Point) : Type 0 where
  pub reached : Reached bytes rs body vars fs p
  pub run : (P : Pack) → Reads bytes rs P → run_from P body vars fs p ≡ run_terms P body vars premises

module _ (bytes : List ℕ) (rs : ℕ → List Place) (body : List ℕ) (vars premises : ℕ) where
  pub run_starts : (fs : List ℕ) → length fs ≡ 512 → 4 + 4 * vars ≤ length body → (p : Point) → p.at ≡ 4 + 4 * vars → p.read ≡ 0 → p.frames ≡ 0 → p.left ≡ premises + 1
      → Running bytes rs body vars premises fs p
  unfolding wanted_by
  run_starts fs l h p at read frames left = record {
    reached = record {
      stacked = record { long = l; few = omega arith; symbol = λ j k. absurd (omega arith); next = λ j k. absurd (omega arith) };
      starts = omega arith;
      inside = omega arith;
      frames = omega arith;
      few = omega arith;
    };
    run = λ P R. rw (at, read, frames, left, add-one premises, wanted_by);
  }

  module _ (fs : List ℕ) (p : Point) (G : Running bytes rs body vars premises fs p) where
    pub run_on : (fs' : List ℕ) (q : Point) → Onward bytes rs body vars fs fs' p q → Running bytes rs body vars premises fs' q
    run_on fs' q O = record { reached = O.reached; run = λ P R. sym (O.run P R) ∙ G.run P R }

    pub run_ends : (fs' : List ℕ) → Turned bytes rs body vars fs fs' p (Ok None) → TermsRead bytes rs body vars premises (Ok p.at)
    run_ends fs' T = record { count = p.read; starts = G.reached.starts; inside = G.reached.inside; run = λ P R. sym (G.run P R) ∙ T P R }

    pub run_bad : (fs' : List ℕ) → Turned bytes rs body vars fs fs' p (Err Bad) → TermsRead bytes rs body vars premises (Err Bad)
    run_bad fs' T P R = sym (G.run P R) ∙ T P R

    pub run-over : (fs' : List ℕ) → Turned bytes rs body vars fs fs' p (Err Over) → TermsRead bytes rs body vars premises (Err Over)
    run-over fs' T P R = sym (G.run P R) ∙ T P R

    pub run_faulty : (fs' : List ℕ) (f : Fault) → Turned bytes rs body vars fs fs' p (Err f) → TermsRead bytes rs body vars premises (Err f)
    run_faulty fs' Bad = run_bad fs'
    run_faulty fs' Over = run-over fs'
