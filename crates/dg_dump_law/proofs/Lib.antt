mod LoadedScripts
mod BatchCounts
mod LegalAnswers
mod KeptRuns
