mod CommonFacts
mod PieceFacts
