-- How operands with operators between are read.
use Rattle.std.proofs.Common.{◌≡◌, ℕ, suc, ◌+◌, ◌-◌, ◌<◌, ◌≤◌, max, List, ◌∷◌, refl, sym, ap, ◌∙◌, arith}
use Rattle.expr_lang.specs.declared.expr.Op.{Op}
use Rattle.spec_text.specs.Lexemes.{Lexeme, sign}
use Rattle.expr_read.specs.declared.prefix.Prefix.{Prefix}
use Rattle.expr_read.specs.Spoken.{Spoken, binary, nesting}
use Rattle.expr_read.specs.within.Wholes.{prefix_glyph, with_prefix, NoOperator, NoPrefix, Whole, chained, prefixed, behind_prefix, no_prefix, Goes, ends, goes, IsOperator, IsRead, NoneRead}
use Rattle.expr_read.proofs.WholeParts.{chain_at, goes_step}
use Rattle.expr_read.proofs.OneWhole.{one_whole}
use Rattle.expr_read.proofs.Nesting.{grows, prefix_nesting}

-- the operands so far: what goes on with them goes on with the whole, and the other way round
pub record ChainSoFar (p left : ℕ) (tokens : List Lexeme) (e : Spoken) (deep : ℕ) (rest : List Lexeme) : Type 0 where
  pub on : (f : Spoken) (more : List Lexeme) → Goes p e rest f more → Whole p tokens f more
  pub back : (f : Spoken) (more : List Lexeme) → Whole p tokens f more → Goes p e rest f more
  pub deep_is : deep ≡ nesting e
  pub within : deep ≤ left

module _ (p q left : ℕ) (tokens : List Lexeme) (low : 1 ≤ p) (high : p ≤ 5) (next : q ≡ suc p) where
  pub chain_none : NoneRead (Whole q) left tokens → NoneRead (Whole p) left tokens
  chain_none none e rest is few =
      let its = chain_at p tokens rest e low high is in
      let more = grows p its.left e its.between rest its.more in
      let its_left = its.is in
      none its.left its.between (rw next its_left) (omega (arith, more, few))

  pub chain_first : (rest : List Lexeme) (e : Spoken) (deep : ℕ) → IsRead (Whole q) left tokens e deep rest → ChainSoFar p left tokens e deep rest
  chain_first rest e deep read =
      let left_is : Whole (suc p) tokens e rest = (let its = read.is in rw (sym next) its) in
      record {
        on = λ f more on. chained p tokens rest more e f low high left_is on;
        back = λ f more is.
            let its = chain_at p tokens more f low high is in
            let same = one_whole (suc p) tokens rest its.between e its.left left_is its.is in
            let its_more = its.more in
            rw (same.0, same.1) its_more;
        deep_is = read.deep_is;
        within = read.within;
      }

module _ (p q left : ℕ) (tokens rest behind : List Lexeme) (e : Spoken) (deep : ℕ) (o : Op) (next : q ≡ suc p) (so : ChainSoFar p left tokens e deep rest)
    (op : IsOperator p rest o behind) where
  pub chain_no_right : NoneRead (Whole q) left behind → NoneRead (Whole p) left tokens
  chain_no_right none f more is few =
      let step = goes_step o p e f rest behind more op.level op.first (so.back f more is) in
      let less : max (nesting e) (nesting step.b) + 1 ≤ nesting f = grows p (binary o e step.b) f step.between more step.more in
      let its_right = step.right in
      none step.b step.between (rw next its_right) (omega (arith, less, few))

  module _ (after : List Lexeme) (b : Spoken) (deep_b : ℕ) (read : IsRead (Whole q) left behind b deep_b after) where
    right_is : Whole (suc p) behind b after
    right_is = let its = read.is in rw (sym next) its

    pub chain_again : (p ≡ 3) × (NoOperator 3 after → ⊥) → NoneRead (Whole p) left tokens
    chain_again again f more is few =
        let step = goes_step o p e f rest behind more op.level op.first (so.back f more is) in
        let same = one_whole (suc p) behind after step.between b step.b right_is step.right in
        let single = step.single again.0 in
        again.1 (rw same.1 single)

    pub chain_deep : left ≤ max deep deep_b → NoneRead (Whole p) left tokens
    chain_deep deeper f more is few =
        let step = goes_step o p e f rest behind more op.level op.first (so.back f more is) in
        let same = one_whole (suc p) behind after step.between b step.b right_is step.right in
        let less : max (nesting e) (nesting step.b) + 1 ≤ nesting f = grows p (binary o e step.b) f step.between more step.more in
        let deep_is = so.deep_is in
        let right_deep = read.deep_is in
        let same_deep = ap nesting same.0 in
        omega (arith, less, few, deeper, deep_is, right_deep, same_deep)

    pub chain_more : (p ≡ 3 → NoOperator 3 after) → (g : Spoken) → g ≡ binary o e b → (most : ℕ) → most ≡ max deep deep_b + 1 → most ≤ left
        → ChainSoFar p left tokens g most after
    chain_more single g is_g most is_most within =
        let deep_is = so.deep_is in
        let right_deep = read.deep_is in
        record {
          on = λ f more on. so.on f more (goes o p e b f rest behind after more op.level op.first right_is single (rw (sym is_g) on));
          back = λ f more is.
              let step = goes_step o p e f rest behind more op.level op.first (so.back f more is) in
              let same = one_whole (suc p) behind after step.between b step.b right_is step.right in
              let its_more = step.more in
              rw (is_g, same.0, same.1) its_more;
          deep_is = is_most ∙ rw (deep_is, right_deep) (sym (ap nesting is_g));
          within = within;
        }

pub chain_end : (p left : ℕ) (tokens rest : List Lexeme) (e : Spoken) (deep : ℕ) → ChainSoFar p left tokens e deep rest → NoOperator p rest
    → IsRead (Whole p) left tokens e deep rest
chain_end p left tokens rest e deep so none = record { is = so.on e rest (ends p e rest none); deep_is = so.deep_is; within = so.within }

-- prefixes
module _ (left : ℕ) (tokens : List Lexeme) (none : NoPrefix tokens) where
  pub plain_read : (rest : List Lexeme) (e : Spoken) (deep : ℕ) → IsRead (Whole 7) left tokens e deep rest → IsRead (Whole 6) left tokens e deep rest
  plain_read rest e deep read =
      record { is = prefixed 6 tokens rest e refl (no_prefix tokens rest e none read.is); deep_is = read.deep_is; within = read.within }

module _ (left : ℕ) (s : Prefix) (tokens after : List Lexeme) (first : tokens ≡ sign (prefix_glyph s) ∷ after) (some : 0 < left) where
  pub prefix_read : (rest : List Lexeme) (a : Spoken) (deep : ℕ) → IsRead (Whole 6) (left - 1) after a deep rest → (e : Spoken) → e ≡ with_prefix s a → (most : ℕ) → most ≡ deep + 1
      → IsRead (Whole 6) left tokens e most rest
  prefix_read rest a deep read e is_e most is_most =
      let deep_is = read.deep_is in
      let within = read.within in
      let its = ap nesting is_e ∙ prefix_nesting s a in
      record {
        is = prefixed 6 tokens rest e refl (rw is_e (behind_prefix s tokens after rest a first read.is));
        deep_is = omega (arith, is_most, deep_is, its);
        within = omega (arith, is_most, within, some);
      }
