use Rattle.verdict_texts.proofs.Apart.{fingerprints-differ}
use Rattle.verdict_texts.proofs.format_laws.fingerprints_differ.Goals as goal

pub returns : goal.returns
returns c = fingerprints-differ
