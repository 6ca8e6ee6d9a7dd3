-- What a look along the members meets past their end.
use Rattle.std.proofs.Common.{pos}
use Rattle.rows.specs.declared.member.Member.{Member}

-- the member that a list read past its end gives
abbrev pub nobody : Member
nobody = record { voice = 0; argument = pos 0 }
