use Rattle.ck_chain.proofs.source_tokens.SourceTokensTokens.next.Goals as goal

pub returns-clause-drawn : goal.returns-clause-drawn
returns-clause-drawn c = rw (← c.self.view_is) c.draw-drawn.ensures.drawn
