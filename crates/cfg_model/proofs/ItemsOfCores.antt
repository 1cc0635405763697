-- A core is the prefix's set of items without lookaheads.
use Rattle.std.proofs.Common.{ℕ, List, refl}
use Rattle.cfg_model.specs.declared.symbol.Sym.{Sym}
use Rattle.cfg_model.specs.declared.symbol.Sym.TheVariants.{N}
use Rattle.cfg_model.specs.Cfg.{Cfg, IsGrammar}
use Rattle.cfg_model.specs.Valid.{Valid, InCore, first_of}
use Rattle.cfg_model.specs.Sets.{AllProductive}
use Rattle.cfg_model.specs.Items.{Item}
use Rattle.cfg_model.proofs.InGrammar.{all_derive, behind_dot}
use Rattle.std.proofs.lemmas.List.Elements.{All-tail}
use Rattle.cfg_model.specs.Cfg.{IsSymbol}

pub item_of : (g : Cfg) (p : List Sym) (r d : ℕ) (y : List Sym) (a : ℕ) → Valid g p r d y a → Item g p r d y
item_of g p r d y a Valid.start = Item.start
item_of g p r d y a (Valid.closure _ r2 d2 n y2 a2 s b _ v is begins) = Item.closure _ r2 d2 n y2 s _ (item_of g p r2 d2 _ a2 v) is
item_of g p r d y a (Valid.move p2 r2 d2 x _ _ v) = Item.move p2 r2 d2 x _ (item_of g p2 r2 d2 _ a v)

-- here each nonterminal has to derive a word: else an item that Closure demands has no lookahead
pub item_in : (g : Cfg) → IsGrammar g → AllProductive g → (p : List Sym) (r d : ℕ) (y : List Sym) → Item g p r d y → InCore g p r d y
item_in g ok all p r d y Item.start = (g.terminals, Valid.start)
item_in g ok all p r d y (Item.closure _ r2 d2 n y2 s _ i is) =
    let (a, v) = item_in g ok all p r2 d2 _ i in
    let (w, derives) = all_derive g y2 all (All-tail (IsSymbol g) (N n) y2 (behind_dot g ok p r2 d2 _ a v)) in
    (first_of w a, Valid.closure _ r2 d2 n y2 a s _ _ v is (w, derives, refl))
item_in g ok all p r d y (Item.move p2 r2 d2 x _ i) =
    let (a, v) = item_in g ok all p2 r2 d2 _ i in (a, Valid.move p2 r2 d2 x _ a v)
