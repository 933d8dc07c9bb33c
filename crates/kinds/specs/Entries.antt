-- What entries mean, and what the operations on them give.
use Rattle.std.specs.Prelude.{pos, cond, Ok, Err, Some, None, Option, Result, int_lt}
use Rattle.std.specs.Ordering.{int_eq}
use Rattle.std.specs.declared.cmp.Ord as ord
use Rattle.std.specs.declared.cmp.PartialEq as eq
use Rattle.std.specs.declared.cmp.PartialOrd as partial
use Rattle.semiring.specs.Entries.{Entries}
use Rattle.kinds.specs.Amount.{Amount, none, of, added}
use Rattle.kinds.specs.Numbers.{values, edge_amount, in_limit, amount, capped, capped_bounded}
use Rattle.kinds.specs.declared.amount.Amount.{Amount as Entry}
use Rattle.kinds.specs.declared.kind.Kind.{Kind}
use Rattle.kinds.specs.declared.number.Number as number

-- of any numbers N, by what their traits say of them
module _ {N : Type 0} {n : number.Ghosts N} {o : ord.Ghosts N} {e : eq.Ghosts N} {p : partial.Ghosts N} where
  -- what an entry stands for
  abbrev pub value : Entry N n o e p → Amount N
  value a = amount n.numbers n.LIMIT a.number

  -- the entry of a number: past the limit on either side it is none
  abbrev pub made : N → Entry N n o e p
  made m = record { number = capped n.numbers n.LIMIT n.NONE m; bound = capped_bounded n.numbers n.LIMIT n.NONE m }

  -- the entry that stands for an amount, or a refusal past the limit on either side
  abbrev pub held : Amount N → Result (Entry N n o e p) Kind
  held none = Ok (made n.NONE)
  held (of m) = cond (in_limit n.numbers n.LIMIT m) (Ok (made m)) (Err n.KIND)

  -- the entry of the star: unit, or a refusal below zero, where there is none
  abbrev pub starred : Amount N → Result (Entry N n o e p) Kind
  starred none = Ok (made n.ZERO)
  starred (of m) = cond (int_lt (n.numbers.whole m) (pos 0)) (Err n.KIND) (Ok (made n.ZERO))

  -- the entry of a number whose magnitude is at most the limit
  abbrev pub checked : N → Option (Entry N n o e p)
  checked m = cond (in_limit n.numbers n.LIMIT m) (Some (made m)) None

  abbrev pub entries : Entries (values n.numbers n.ZERO) (Entry N n o e p) N Kind
  entries =
      record {
        value = value;
        none = made n.NONE;
        unit = made n.ZERO;
        sum = λ a b. made (n.numbers.min a.number b.number);
        product = λ a b. held (added n.numbers.add (value a) (value b));
        star = λ a. starred (value a);
        same = λ a b. int_eq (n.numbers.whole a.number) (n.numbers.whole b.number);
        is_edge = λ a. edge_amount n.numbers n.EDGE_LIMIT (value a);
        read = made;
        write = λ a. a.number;
      }
