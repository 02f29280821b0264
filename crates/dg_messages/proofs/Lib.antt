mod ToldSets
mod CollectedMessages
mod HeardLists
mod MessagesBehind
mod MessageWeights
mod ShownMessages
mod HeardGraphs
mod OnceHeard
