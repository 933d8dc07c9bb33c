-- The theory of closures, proved from the laws alone.
use Rattle.semiring.specs.Algebra.{Semiring, Laws}
use Rattle.semiring.proofs.Order.{le_refl, le_trans, le_antisym, plus_left, plus_right, plus_least, times_monotone}
use Rattle.closure.specs.Walks.{walk_value}
use Rattle.closure.specs.Theory.{Theory}
use Rattle.closure.proofs.Walks.{joining_multiplies, transitive_above, diagonal_star, continuous_closure, closure_unique, starts}
use Rattle.closure.proofs.Moves.{continuous_transitive}
use Rattle.closure.proofs.Empty.{empty_continuous}
use Rattle.closure.proofs.Insertion.{insertion_continuous, cycle_criterion}

pub theory : {s : Semiring} → Laws s → Theory s
theory {s} l =
    let d = l.dioid in
    record {
      ordered = record {
        reflexive = λ a. le_refl d;
        transitive = λ a b c. le_trans d;
        antisymmetric = λ a b. le_antisym d;
        plus_above = λ a b. (plus_left d, plus_right d);
        plus_least = λ a b c. plus_least d;
        times_monotone = λ a b c e. times_monotone d;
      };
      joining_multiplies = λ edges n x z y. joining_multiplies d edges;
      transitive_above_walks = λ n edges t h x y. transitive_above d h;
      closed_walks_have_stars = λ n edges t h x w. l.star_below (walk_value s edges w) (t x x) (transitive_above d h w) (t x x, diagonal_star d h x (starts w));
      continuous_closes = λ n edges t h. (continuous_closure d h, continuous_transitive d h);
      empty_continuous = λ n edges t. empty_continuous d;
      insertion_continuous = λ n i j p r σ q edges edges' t t' closed summed. insertion_continuous l n i j p r closed summed;
      cycle_criterion = λ n i j p r σ edges edges' t. cycle_criterion l n i j p r;
      closure_unique = λ n edges t u. closure_unique d;
    }
